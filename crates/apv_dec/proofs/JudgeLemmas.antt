-- How an access unit is judged.
use Rattle.std.proofs.Common.{◌≡◌, ℕ, List, Bool, true, refl, sym, subst}
use Rattle.apv_base.specs.declared.rules.Break.{Break}
use Rattle.apv_base.specs.declared.rules.Place.{Place}
use Rattle.apv_base.specs.declared.rules.UnitEnd.TheVariants as ends
use Rattle.apv_base.specs.model.Body.{with_bodies}
use Rattle.apv_base.specs.model.Judge.{DecodedUnit, IsValidUnit, UnitBreaks, strictly, in_content}
use Rattle.apv_base.specs.model.Pbu.{Pbu}
use Rattle.apv_base.specs.model.Unit.{Structure}
use Rattle.apv_grid.specs.Buffer.{Buffer}
use Rattle.apv_frame.specs.Unit.{HasFrames, IsFramesFault}
use Rattle.apv_frame.specs.declared.unit.FramesFault.{FramesFault}
use Rattle.apv_frame.specs.declared.unit.FramesFault.TheVariants.{Broken, Memory}
use Rattle.apv_unit.specs.Strict.{IsStrictBreak}
use Rattle.apv_workers.specs.Decode.{break_of}
use Rattle.apv_dec.specs.Judged.{PassesRules, IsJudged, IsRefused, no_memory, breaks, frames_exit}

-- a rule of strict judging is broken
pub strict-breaks : (strict : Bool) (n : ℕ) (bytes : List ℕ) (pbus : List Pbu) (broken : Break) → Structure with_bodies bytes pbus → strict ≡ true → IsStrictBreak pbus n broken → UnitBreaks strict n bytes (ends.Broken broken)
strict-breaks strict n bytes pbus broken structure e b =
    subst (λ (at : Place). UnitBreaks strict n bytes (ends.Broken (record { rule = broken.rule; place = at }))) (sym b.place) (strictly pbus broken.rule broken.place.pbu structure e b.first)

-- the frames are decoded
pub judged : (strict : Bool) (bytes : List ℕ) (buffers : List (Buffer ℕ)) (pbus : List Pbu) → PassesRules strict bytes pbus → HasFrames pbus buffers → (unit : DecodedUnit) × IsJudged strict bytes buffers unit
judged strict bytes buffers pbus passes has = (record { bytes = bytes; pbus = pbus; frames = has.frames }, record { same = refl; rules = passes; content = has.decoded; held = has.held })

-- the frames aren't decoded
pub frames-refused : (strict : Bool) (n : ℕ) (bytes : List ℕ) (pbus : List Pbu) (fault : FramesFault) → PassesRules strict bytes pbus → IsFramesFault pbus fault → IsRefused strict n bytes (frames_exit n fault)
frames-refused strict n bytes pbus (Broken pbu at) passes f =
    breaks (ends.Broken (record { rule = at.rule; place = record { unit = n; pbu = pbu; tile = at.tile; comp = at.comp } })) (in_content pbus pbu (break_of at) passes.structure passes.strictly f)
frames-refused strict n bytes pbus Memory passes f = no_memory

pub valid-of : (strict : Bool) (bytes : List ℕ) (buffers : List (Buffer ℕ)) (unit : DecodedUnit) → IsJudged strict bytes buffers unit → IsValidUnit strict unit
valid-of strict bytes buffers unit is = record { structure = subst (λ (b : List ℕ). Structure with_bodies b unit.pbus) (sym is.same) is.rules.structure; strictly = is.rules.strictly; content = is.content }

-- the same by other names of its bytes and its buffers
pub judged-as : (strict : Bool) (bytes given : List ℕ) (buffers frames : List (Buffer ℕ)) (unit : DecodedUnit) → given ≡ bytes → frames ≡ buffers → IsJudged strict bytes buffers unit → IsJudged strict given frames unit
judged-as strict bytes given buffers frames unit same held is =
    subst (λ (b : List ℕ). IsJudged strict b frames unit) (sym same) (subst (λ (bs : List (Buffer ℕ)). IsJudged strict bytes bs unit) (sym held) is)
