-- Whether the bodies of PBUs are looked into.
use Rattle.std.specs.Prelude.{Bool, true, false}
use Rattle.apv_base.specs.model.Body.{Reach, outline, with_bodies}

abbrev pub reach_of : Bool → Reach
reach_of true = with_bodies
reach_of false = outline
