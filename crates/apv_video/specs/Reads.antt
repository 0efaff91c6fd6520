-- What the steps of reading a picture take and return.
use Rattle.std.specs.Prelude.{◌≡◌, ℕ, ◌+◌, ◌-◌, ◌<◌, Bool, true, false, List, ◌++◌, length, slice_index}
use Rattle.std.specs.Prelude.{Result, Ok, Err}
use Rattle.std.specs.Io.KnownBytes.{IsAtEnd}
use Rattle.apv_base.specs.declared.format.Format.{Format}
use Rattle.apv_base.specs.model.Format.{component_width}
use Rattle.apv_base.specs.declared.exits.VideoRule.{VideoRule}
use Rattle.apv_base.specs.declared.exits.VideoRule.TheVariants.{Truncated, Range}
use Rattle.apv_base.specs.declared.slot.Slot.{Slot}
use Rattle.apv_base.specs.model.Picture.{Samples, picture, picture_len}
use Rattle.apv_base.specs.model.Video.{AreSamples, AreInRange}
use Rattle.apv_files.specs.SlotView.{SlotView}
use Rattle.apv_files.specs.Loops.{TookAll, ReadsFailed, ReadsStopped}
use Rattle.apv_video.specs.Samples.{sample_at}
use Rattle.apv_video.specs.declared.end.VideoEnd.{VideoEnd}
use Rattle.apv_video.specs.declared.end.VideoEnd.TheVariants.{Bad, Limit, Read, Memory as EndMemory}
use Rattle.apv_video.specs.declared.read.Stop.{Stop}
use Rattle.apv_video.specs.declared.read.Stop.TheVariants.{Cut, Device, Memory}

-- ---- samples and bounds

-- A number is below a bound exactly where samples are: the highest of them, or 0.
pub record IsHighest (AreBelow : ℕ → Type 0) (high : ℕ) : Type 0 where
  pub above : (bound : ℕ) → high < bound → AreBelow bound
  pub least : (bound : ℕ) → 0 < bound → AreBelow bound → high < bound

-- the first n values of a function are below a bound
abbrev pub AreValuesBelow : (ℕ → ℕ) → ℕ → ℕ → Type 0
AreValuesBelow f n bound = (i : ℕ) → i < n → f i < bound

-- each item of a list is below a bound
abbrev pub AreItemsBelow : List ℕ → ℕ → Type 0
AreItemsBelow xs bound = AreValuesBelow (λ i. slice_index xs i) (length xs) bound

-- each visible sample of the first n components is below a bound
abbrev pub AreBelow : Format → Samples → ℕ → ℕ → Type 0
AreBelow format samples n bound = (comp x y : ℕ) → comp < n → x < component_width format comp → y < format.height
    → samples comp x y < bound

-- ---- samples of a frame

-- The first n items of a list became the visible samples of a component from the one with a number on. The samples of
-- the component before them, and those of the components before it, stayed.
pub record PutsSamples (format : Format) (comp first : ℕ) (row : List ℕ) (n : ℕ) (old new : Samples) : Type 0 where
  pub put : (i : ℕ) → i < n → sample_at format new comp (first + i) ≡ slice_index row i
  pub before : (i : ℕ) → i < first → sample_at format new comp i ≡ sample_at format old comp i
  pub others : (c x y : ℕ) → c < comp → x < component_width format c → y < format.height → new c x y ≡ old c x y

-- the visible samples of the components before one stayed
abbrev pub KeepsBefore : Format → ℕ → Samples → Samples → Type 0
KeepsBefore format comp old new =
    (c x y : ℕ) → c < comp → x < component_width format c → y < format.height → new c x y ≡ old c x y

-- ---- bytes

-- the input ended before this many bytes were taken
pub record EndsIn (old : SlotView) (size : ℕ) (new : SlotView) : Type 0 where
  pub taken : List ℕ
  pub took : TookAll old taken new
  pub short : length taken < size
  pub end : IsAtEnd new.left

-- fewer than so many bytes were taken, and why; or as many, where memory ran out
abbrev pub Stops : SlotView → ℕ → Stop → SlotView → Type 0
Stops old size Cut new = EndsIn old size new
Stops old size Device new = ReadsFailed old size new
Stops old size Memory new = ReadsStopped old size new

-- bytes were taken, which after those at hand are this text
pub record TookText (old : SlotView) (head text : List ℕ) (new : SlotView) : Type 0 where
  pub taken : List ℕ
  pub took : TookAll old taken new
  pub is : head ++ taken ≡ text

-- the whole buffer was filled
abbrev pub FillsAll : {T : Type 0} → SlotView → Result T Stop → List ℕ → SlotView → Type 0
FillsAll old (Ok _) buf new = TookAll old buf new
FillsAll old (Err stop) buf new = Stops old (length buf) stop new

-- the bytes of samples were taken, as a text after those at hand; their highest is this
pub record TookSamples (old : SlotView) (head text : List ℕ) (Below : ℕ → Type 0) (high : ℕ) (new : SlotView)
    : Type 0 where
  pub read : TookText old head text new
  pub highest : IsHighest Below high

-- The bytes of samples were taken, so many with those at hand; or fewer, and why.
abbrev pub ReadsSamples : SlotView → List ℕ → ℕ → List ℕ → (ℕ → Type 0) → Result ℕ Stop → SlotView → Type 0
ReadsSamples old head size text Below (Ok high) new = TookSamples old head text Below high new
ReadsSamples old head size text Below (Err stop) new = Stops old (size - length head) stop new

-- ---- whole pictures

-- a picture of these samples was taken, of which some bytes were at hand
pub record TookRest (format : Format) (head : List ℕ) (old : SlotView) (samples : Samples) (new : SlotView)
    : Type 0 where
  pub read : TookText old head (picture format samples) new
  pub wide : AreSamples format samples
  pub range : AreInRange format samples

-- a picture was taken, of which a sample is out of its range
pub record IsOutOfRange (format : Format) (head : List ℕ) (old : SlotView) (samples : Samples) (new : SlotView)
    : Type 0 where
  pub read : TookText old head (picture format samples) new
  pub wide : AreSamples format samples
  pub range : AreInRange format samples → ⊥

-- a picture isn't whole, or a sample is out of its range
abbrev pub RestBreaks : Format → List ℕ → VideoRule → SlotView → Samples → SlotView → Type 0
RestBreaks format head Truncated old samples new = EndsIn old (picture_len format - length head) new
RestBreaks format head Range old samples new = IsOutOfRange format head old samples new
RestBreaks format head rule old samples new = ⊥

-- a picture of a slot, which is the one of that number, was read, of which some bytes were at hand
abbrev pub ReadsRest :
    Slot → ℕ → Format → List ℕ → SlotView → Result Bool VideoEnd → Samples → SlotView → Type 0
ReadsRest slot number format head old (Ok true) samples new = TookRest format head old samples new
ReadsRest slot number format head old (Ok false) samples new = ⊥
ReadsRest slot number format head old (Err (Bad break)) samples new =
    RestBreaks format head break.rule old samples new × (break.slot ≡ slot) × (break.frame ≡ number)
ReadsRest slot number format head old (Err (Limit limit count)) samples new = ⊥
ReadsRest slot number format head old (Err (Read failed)) samples new =
    ReadsFailed old (picture_len format - length head) new × (failed ≡ slot)
ReadsRest slot number format head old (Err EndMemory) samples new =
    ReadsStopped old (picture_len format - length head) new
