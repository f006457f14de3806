use Rattle.std.proofs.Common.{◌≡◌, ◌+◌, ◌-◌, ℕ, length, sym, ap, ◌∙◌}
use Rattle.spool.specs.Refusal.{trajectory_refusal}
use Rattle.spool.specs.Refusal.Laws.{Accepted}
use Rattle.read_along.specs.declared.Start.{Start}
use Rattle.read_along.specs.Words.{first_frame}
use Rattle.read_along.specs.Promise.{words_refusal}
use Rattle.read_along.specs.Inner.Steps.{Timed}
use Rattle.read_along.proofs.Refusing.{timed_with}
use Rattle.read_along.proofs.Steps.{part-forth, part-start, part_count}
use Rattle.read_along.proofs.Ways.{part-done}
use Rattle.read_along.proofs.excerpt_part.Goals as goal
use Rattle.read_along.proofs.excerpt_part.Goals.{After-behind-next, In_ok-check}

-- nothing is refused before the word is looked at
none : (c : In_ok-check) → let a = c.args in words_refusal (trajectory_refusal (length a.trajectory.now) a.durations.now a.v) a.words.now a.nstate a.durations.now ≡ 0
none c =
    let a = c.args in
    sym (c.in_ok-check.ensures ∙ ap (λ (n : ℕ). words_refusal n a.words.now a.nstate a.durations.now) c.check_trajectory.ensures)

known : (c : In_ok-check) → let a = c.args in Timed a.words.now a.nstate a.durations.now × Accepted (length a.trajectory.now) a.durations.now a.v
known c = let a = c.args in timed_with (length a.trajectory.now) a.v a.words.now a.nstate a.durations.now (none c)

pub start_of-here-requires : goal.start_of-here-requires
start_of-here-requires c = ((known (goal.at.start_of-here-requires c).In_ok-check).0, c.if-words-i.false)

pub behind-next-requires : goal.behind-next-requires
behind-next-requires c = ((known (goal.at.behind-next-requires c).In_ok-check).0, c.if-words-i.false, c.start_of-here.ensures)

-- its two frames
module _ (c : After-behind-next) where
  first_is : c.start_of-here.result.frame ≡ first_frame c.args.words.now c.args.nstate c.args.durations.now c.args.word
  first_is = ap (λ (s : Start). s.frame) c.start_of-here.ensures

  after_is : c.behind-next.result.frame ≡ first_frame c.args.words.now c.args.nstate c.args.durations.now (c.args.word + 1)
  after_is = ap (λ (s : Start). s.frame) c.behind-next.ensures

pub overflow_sub-next : goal.overflow_sub-next
overflow_sub-next c =
    let a = c.args in
    let b = (goal.at.overflow_sub-next c).After-behind-next in
    part-forth a.words.now a.nstate a.durations.now a.word c.if-words-i.false _ _ (first_is b) (after_is b)

pub returns : goal.returns
returns c =
    let a = c.args in
    let b = (goal.at.returns c).After-behind-next in
    let f = c.from.ensures ∙ first_is b in
    let g : c.from-2.result ≡ c.behind-next.result.frame - c.from.result = c.from-2.ensures ∙ ap (λ (n : ℕ). c.behind-next.result.frame - n) (sym c.from.ensures) in
    part-done a.words.now a.nstate a.durations.now a.trajectory.now a.v a.word (none (goal.at.returns c).In_ok-check) c.if-words-i.false _ _
    (part-start a.words.now a.nstate a.durations.now a.word c.if-words-i.false _ _ f (after_is b) a.v _ _ c.from-width.ensures g)
    (part_count a.words.now a.nstate a.durations.now a.word c.if-words-i.false _ _ f (after_is b) a.v _ _ c.from-width.ensures g)
