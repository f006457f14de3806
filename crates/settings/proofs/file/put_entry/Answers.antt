use Rattle.settings.proofs.Writing.{entry-written}
use Rattle.settings.proofs.file.put_entry.Goals as goal

pub returns : goal.returns
returns c =
    entry-written _ _ _ _ _ _ _ _ c.put_little_endian.ensures c.put_little_endian-2.ensures c.put_little_endian-3.ensures c.put_little_endian-4.ensures
