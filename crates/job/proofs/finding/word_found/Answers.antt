use Rattle.job.proofs.Damages.{word_wrong, word_sound}
use Rattle.job.proofs.finding.word_found.Goals as goal

pub returns-then-word-least : goal.returns-then-word-least
returns-then-word-least c = let a = c.args in word_wrong a.bytes.now a.at a.least a.most a.damage _ _ c.little_endian-word.ensures c.if-word-least.true (rw c.damaged.ensures at c.found_to.ensures)

pub returns : goal.returns
returns c = let a = c.args in word_sound a.bytes.now a.at a.least a.most a.damage _ _ c.little_endian-word.ensures c.if-word-least.false c.found_to-2.ensures
