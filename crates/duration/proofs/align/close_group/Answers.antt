use Rattle.std.proofs.Common.{◌≡◌, sym, ap, ◌∙◌, arith, ℕ, ◌-◌, ◌^◌, ◌≤◌, ◌<◌, max, List, ◌++◌, length, take}
use borrow.Rule.Slice.PartMut.{mid_len, Post-is}
use Rattle.lists.specs.Sizes.{most_frames}
use Rattle.lists.specs.Totals.{total}
use Rattle.lists.proofs.Sums.{total-whole}
use Rattle.steps.specs.Steps.{States, size, least}
use Rattle.steps.specs.Lent.{lent}
use Rattle.duration.specs.Fit.{fit_to, refusal_to}
use Rattle.duration.specs.Align.{Group, given, states_in, target_of}
use Rattle.duration.specs.Inner.Asked.{InPlace}
use Rattle.duration.proofs.Closing.{close_refused, close_long, close_grown}
use Rattle.duration.proofs.Shortest.{part_low}
use Rattle.duration.proofs.align.close_group.Goals as goal
use Rattle.duration.proofs.align.close_group.Goals.{After-total_u32-low, After-fit-answer}

-- the group, and the sum of its shortest
module _ (c : After-total_u32-low) where
  abbrev group : Group
  group = given c.args.from c.args.to c.args.end

  abbrev own : States
  own = states_in group (lent c.args.states)

  shortest-length : length own.shortest ≡ c.args.to - c.args.from
  shortest-length = mid_len c.args.from c.args.to c.args.states.shortest.now (omega (arith, c.requires.lies.inside, c.requires.lies.lists.shortest))

  states-length : size own ≡ c.args.to - c.args.from
  states-length = mid_len c.args.from c.args.to c.args.states.means.now c.requires.lies.inside

  low-is : c.total_u32-low.result ≡ least own
  low-is =
      let p : List ℕ = c.part-group.result.shortest.now in
      let e : p ≡ own.shortest = ap (λ (ss : States). ss.shortest) c.part-group.ensures in
      c.total_u32-low.ensures ∙ ap (λ (ls : List ℕ). total (take (2 ^ 32) ls)) e ∙ total-whole own.shortest (omega (arith, shortest-length, c.requires.lies.inside, c.requires.lies.lists.few))

  low-few : c.total_u32-low.result ≤ most_frames
  low-few = omega (arith, low-is, part_low c.args.states.shortest.now c.args.from (c.args.to - c.args.from), c.requires.lies.low)

  some : 0 < size own
  some = omega (arith, states-length, c.requires.from_lt_to)

  agree : length own.shortest ≡ size own
  agree = shortest-length ∙ sym states-length

-- what its fit left in its place
module _ (c : After-fit-answer) where
  fits : let ss = states_in (given c.args.from c.args.to c.args.end) (lent c.args.states) in InPlace (refusal_to ss (target_of c.args.end c.args.frames)) (fit_to ss (target_of c.args.end c.args.frames)) c.fit-answer.result c.fit-answer.new.work
  fits = rw (← c.part-group.ensures, ← c.rounded-target.ensures) c.fit-answer.ensures

pub overflow_cast-low : goal.overflow_cast-low
overflow_cast-low c = omega (arith, low-few (goal.at.overflow_cast-low c).After-total_u32-low)

pub fit-answer-requires-clause-low_value : goal.fit-answer-requires-clause-low_value
fit-answer-requires-clause-low_value c = low-is (goal.at.fit-answer-requires-clause-low_value c).After-total_u32-low ∙ ap least (sym c.part-group.ensures)

pub returns-in_default : goal.returns-in_default
returns-in_default c = close_refused _ _ _ _ _ _ _ _ _ (fits (goal.at.returns-in_default c).After-fit-answer) _ c.unwrap_err.ensures

-- the larger of two numbers that are known
larger : (s t u l m : ℕ) → s ≡ max t l → t ≡ u → l ≡ m → s ≡ max u m
larger s t u l m e f g = rw (← f, ← g) e

pub returns-then-sum-frames : goal.returns-then-sum-frames
returns-then-sum-frames c =
    let at = (goal.at.returns-then-sum-frames c).After-total_u32-low in
    close_long _ _ _ _ _ _ _ _ _ (fits (goal.at.returns-then-sum-frames c).After-fit-answer) _ _ c.in-Ok.is (some at) (agree at) (larger _ _ _ _ _ c.max-sum.ensures c.rounded-target.ensures (low-is at)) (omega (arith, c.if-sum-frames.true, c.requires.lies.few))

pub returns : goal.returns
returns c =
    let a = c.args in
    let at = (goal.at.returns c).After-total_u32-low in
    close_grown _ _ _ _ _ _ _ _ _ (fits (goal.at.returns c).After-fit-answer) _ _ c.in-Ok.is (some at) (agree at) (larger _ _ _ _ _ c.max-sum.ensures c.rounded-target.ensures (low-is at)) (omega (arith, c.if-sum-frames.false, c.requires.lies.few))
    (ap (λ (l : List ℕ). take a.from a.work.now ++ (c.fit-answer.new.work ++ l)) (Post-is a.from a.to a.work.now c.requires.lies.order))
