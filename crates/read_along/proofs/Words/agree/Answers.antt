use Rattle.std.proofs.Common.{ap, ◌∙◌, ◌&&◌, ℕ, ◌/◌, ◌%◌, eqb, length}
use Rattle.read_along.proofs.Refusing.{by_division}
use Rattle.read_along.proofs.Words.agree.Goals as goal

pub returns : goal.returns
returns c =
    let s = c.args.self in
    ap (λ (n : ℕ). eqb (length s.durations.now % n) 0 && eqb c.total_u32.result (length s.durations.now / n)) c.from-each.ensures
    ∙ by_division s.labels.now s.nstate s.durations.now c.if-self-gt-MOST_WORDS.false c.requires _ c.total_u32.ensures
