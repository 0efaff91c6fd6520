use Rattle.apv_header.proofs.InfoLemmas.{info-gives, info-taken}
use Rattle.apv_header.proofs.info.read_frame_info.Goals as goal

pub returns-clause-ok : goal.returns-clause-ok
returns-clause-ok c = info-gives c.args.reader.now c.read_info.new.reader c.read_info.result c.read_info.ensures.ok

pub returns-clause-taken : goal.returns-clause-taken
returns-clause-taken c = info-taken c.args.reader.now c.read_info.new.reader c.read_info.result c.read_info.ensures.ok
