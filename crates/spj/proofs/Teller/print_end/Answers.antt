use Rattle.spj.proofs.Printing.{end-within}
use Rattle.spj.proofs.Teller.print_end.Goals as goal

pub print_answered-requires : goal.print_answered-requires
print_answered-requires c = end-within _ _ _ c.end-answer.result _ _ _ c.end-answer.ensures
