use Rattle.read_along.proofs.Filing.{heading-written}
use Rattle.read_along.proofs.file.put_heading.Goals as goal

pub returns : goal.returns
returns c =
    heading-written _ _ _ _ _ c.copy.ensures c.put_little_endian.ensures c.put_little_endian-2.ensures
