use Rattle.apv_scan.proofs.ReadingLemmas.{takes_seen}
use Rattle.apv_scan.proofs.elements.run_level.read_run_level.Goals as goal

pub returns-in-Some-take_run_level : goal.returns-in-Some-take_run_level
returns-in-Some-take_run_level c = (
  c.in-Some-take_run_level.ensures.0,
  takes_seen c.taken.result c.args.reader.now c.skip.new.self c.in-Some.window c.take_run_level.new.window _ c.in-Some.ensures.some c.taken.ensures c.in-Some-take_run_level.ensures.1 c.skip.ensures,
)
