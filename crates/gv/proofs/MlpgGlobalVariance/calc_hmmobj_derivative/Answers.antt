use borrow.Author.Rules.{rules}
use Rattle.gv.proofs.Grading.{graded-none, graded-all}
use Rattle.gv.proofs.MlpgGlobalVariance.calc_hmmobj_derivative.Goals as goal

pub returns-then-n-ge5 : goal.returns-then-n-ge5
returns-then-n-ge5 c =
    let g = c.args.self in
    let d = c.args.m.now in
    let weight = c.weight_of-weight in
    let first = c.grade_rows-first.ensures d (λ b t x k. search rules) (graded-none c.args.p g.length g.width weight.result d) in
    let inner = c.grade_rows-inner.ensures d (λ b t x k. rw c.if-w-eq3.true (search rules)) first in
    graded-all c.args.p g.length g.width d c.requires.spaced.room weight.result _ _ _ weight.ensures (c.grade_rows.ensures d (λ b t x k. search rules) inner)

pub returns : goal.returns
returns c =
    let g = c.args.self in
    let d = c.args.m.now in
    let weight = c.weight_of-weight in
    graded-all c.args.p g.length g.width d c.requires.spaced.room weight.result _ _ _ weight.ensures (c.grade_rows-2.ensures d (λ b t x k. search rules) (graded-none c.args.p g.length g.width weight.result d))
