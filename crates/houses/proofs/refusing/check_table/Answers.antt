use Rattle.houses.specs.Promise.{table_refusal}
use Rattle.houses.proofs.refusing.check_table.Goals as goal

pub returns-then-table : goal.returns-then-table
unfolding table_refusal
returns-then-table c = rw c.if-table.true

pub returns : goal.returns
unfolding table_refusal
returns c = rw c.if-table.false
