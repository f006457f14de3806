use native.Mathlib.Omega.{arith}
use Rattle.steps.proofs.Keys.{least-place}
use Rattle.steps.proofs.Scans.{scan_start, scan_fits, scan_next}
use Rattle.steps.proofs.scan.least_of.Goals as goal

pub entry_of-best-requires : goal.entry_of-best-requires
entry_of-best-requires c = record { ready = c.requires; p_in_bounds = c.requires.some }

pub loop-i-init : goal.loop-i-init
loop-i-init c = scan_start _ _ _ c.requires.some c.entry_of-best.ensures

pub better_of-best-requires : goal.better_of-best-requires
better_of-best-requires c = scan_fits _ _ _ _ c.loop-i.invariant (omega (arith, c.requires.work, c.loop-i-test.true)) _ c.entry_of-next.ensures c.requires.few

pub loop-i-preserved : goal.loop-i-preserved
loop-i-preserved c = scan_next _ _ _ _ c.loop-i.invariant (omega (arith, c.requires.work, c.loop-i-test.true)) _ c.entry_of-next.ensures _ c.better_of-best.ensures

pub returns : goal.returns
returns c =
    let s = c.loop-i.invariant in
    least-place _ _ _ _ c.requires.few _ (omega (arith, s.place, s.within)) (λ j h. s.least j (omega (arith, c.requires.work, c.loop-i-test.false)))
