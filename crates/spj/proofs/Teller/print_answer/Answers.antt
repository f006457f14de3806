use Rattle.spj.proofs.Printing.{states-within}
use Rattle.spj.proofs.Teller.print_answer.Goals as goal

pub print_answered-requires : goal.print_answered-requires
print_answered-requires c = states-within 0 _ _ _ c.answer-answer.result _ _ c.answer-answer.ensures
