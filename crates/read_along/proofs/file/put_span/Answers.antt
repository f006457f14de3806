use Rattle.read_along.proofs.Filing.{span-written}
use Rattle.read_along.proofs.file.put_span.Goals as goal

pub returns : goal.returns
returns c =
    span-written _ _ _ _ _ _ c.put_u32.ensures c.put_u32-2.ensures
