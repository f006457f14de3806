use native.Mathlib.Omega.{arith}
use borrow.Author.Rules.{rules}
use lib.Ieee.{binary64, div}
use Rattle.floats.specs.Numbers.{number}
use Rattle.floats.proofs.Casts.{exact}
use Rattle.gv.specs.Gv.{mean_of, vari_of, squared}
use Rattle.gv.proofs.Switched.{sampled}
use Rattle.gv.proofs.MlpgGlobalVariance.calc_gv.Goals as goal

pub int_to_float-n : goal.int_to_float-n
int_to_float-n c = exact _ (omega (arith, c.requires.few, (sampled c.args.on.now c.args.self _ c.requires).3))

pub switched_sum-requires-clause-lists : goal.switched_sum-requires-clause-lists
switched_sum-requires-clause-lists c = let k = sampled c.args.on.now c.args.self _ c.requires in (k.0, k.1, k.2)

pub switched_sum-requires-2-clause-lists : goal.switched_sum-requires-2-clause-lists
switched_sum-requires-2-clause-lists c = let k = sampled c.args.on.now c.args.self _ c.requires in (k.0, k.1, k.2)

pub returns : goal.returns
unfolding mean_of vari_of
returns c =
    let e = c.requires.counted.number in
    let m = c.switched_sum.ensures (λ x. x) (λ x y k. search rules) in
    let v = c.switched_sum-2.ensures (squared (div binary64 c.switched_sum.result (number c.args.self.switched))) (λ x y k. search rules) in
    (rw (m, e), rw (v, m, e))
