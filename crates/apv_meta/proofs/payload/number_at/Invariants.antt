use Rattle.std.proofs.Common.{◌≡◌, ◌*◌, drop}
use Rattle.apv_base.specs.model.Table.{coded_at, counted}
use Rattle.apv_meta.proofs.payload.number_at.Given as goal

-- each byte so far counts 255
abbrev pub invariant-loop-i : goal.invariant-loop-i
invariant-loop-i l = record {
  value : l.value ≡ 255 * l.i;
  rest : coded_at (drop l.fn.place l.list) ≡ counted l.value (coded_at (drop l.i (drop l.fn.place l.list)));
}
