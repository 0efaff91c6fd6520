-- The fields of access unit information.
use Rattle.std.specs.Prelude.{◌≡◌, ◌≢◌, ℕ, ◌+◌, ◌*◌, ◌<◌, ◌≤◌, List, [], ◌∷◌, ◌++◌, length, take, drop}
use Rattle.std.specs.Prelude.{slice_index, Result, Err, false}
use Rattle.apv_base.specs.declared.rules.Rule.TheVariants.{V8, V14}
use Rattle.apv_base.specs.declared.rules.HeadEnd.{HeadEnd}
use Rattle.apv_base.specs.declared.rules.HeadEnd.TheVariants.{Rule as breaks}
use Rattle.std.specs.List.{flat_map}
use Rattle.apv_base.specs.model.Bits.{be, bits, number}
use Rattle.apv_base.specs.model.Table.{Table, done, spell, walk, with_values}
use Rattle.apv_base.specs.model.Header.{info_fields}
use Rattle.apv_base.specs.model.Frame.{bytes_left}
use Rattle.apv_base.specs.model.AuInfo.{au_info_table, entry_fields, WalksAuInfo, ListedFrame, IsListable, info_bytes}
use Rattle.apv_unit.specs.declared.au_info.AuEntry.{AuEntry}

-- free bits come first, then a reserved field that is 0, and then these bits
pub record PassesReserved (free reserved : ℕ) (old new : List ℕ) : Type 0 where
  pub enough : free + reserved ≤ length old
  pub zero : number 2 (take reserved (drop free old)) ≡ 0
  pub rest : new ≡ drop (free + reserved) old

-- bits are missing, or the reserved field isn't 0
pub data BreaksReserved (free reserved : ℕ) (old : List ℕ) : HeadEnd → Type 0 where
  short : length old < free + reserved → BreaksReserved free reserved old (breaks V8)
  not_zero : free + reserved ≤ length old → number 2 (take reserved (drop free old)) ≢ 0
      → BreaksReserved free reserved old (breaks V14)

-- a walk by the table over these bits ends so: in the values and the bits after them, or at the rule that is broken
abbrev pub WalksTo : Table HeadEnd → List ℕ → Result (List ℕ × List ℕ) HeadEnd → Type 0
WalksTo table xs end = walk 2 table xs ≡ end

-- an entry is at the start of these bits, and then the others
pub record PassesEntry (old new : List ℕ) : Type 0 where
  pub walked : (next : Table HeadEnd) → (values : List ℕ)
      × WalksTo (entry_fields next) old (with_values values (walk 2 next new))
  pub shorter : length new ≤ length old

-- the entry at the start of these bits breaks a rule
abbrev pub BreaksEntry : List ℕ → HeadEnd → Type 0
BreaksEntry old end = (next : Table HeadEnd) → WalksTo (entry_fields next) old (Err end)

-- the fields break no rule, and these bytes follow them
pub record PassesFields (body after : List ℕ) : Type 0 where
  pub values : List ℕ
  pub left : List ℕ
  pub walked : WalksAuInfo body values left
  pub bytes : after ≡ bytes_left body left

-- the fields break a rule
abbrev pub BreaksFields : List ℕ → HeadEnd → Type 0
BreaksFields body end = WalksTo au_info_table (bits body) (Err end)

-- the entry of a number, by the values of the body: an entry has 13 of them, and the last ten are those of frame_info()
pub record IsAuEntry (entry : AuEntry) (values : List ℕ) (number : ℕ) : Type 0 where
  pub kind : entry.kind ≡ slice_index values (1 + 13 * number)
  pub group : entry.group ≡ slice_index values (2 + 13 * number)
  pub info : bits entry.info ≡ spell 2 (info_fields false (λ format. done)) (take 10 (drop (4 + 13 * number) values))

-- ---- what is written

-- the 16 bytes of an entry: pbu_type, group_id, a reserved byte and frame_info()
abbrev pub entry_bytes : AuEntry → List ℕ
entry_bytes entry = entry.kind ∷ (be 2 entry.group ++ 0 ∷ entry.info)

-- the bytes of entries: their number, the entries and a reserved byte
abbrev pub entries_bytes : List AuEntry → List ℕ
entries_bytes entries = be 2 (length entries) ++ (flat_map entry_bytes entries ++ 0 ∷ [])

-- the entry lists this frame
pub record Lists (entry : AuEntry) (frame : ListedFrame) : Type 0 where
  pub kind : entry.kind ≡ frame.kind
  pub group : entry.group ≡ frame.group
  pub info : entry.info ≡ info_bytes frame.info
  pub sound : IsListable frame

-- the entries list these frames
abbrev pub ListAll : List AuEntry → List ListedFrame → Type 0
ListAll [] frames = frames ≡ []
ListAll (entry ∷ entries) [] = ⊥
ListAll (entry ∷ entries) (frame ∷ frames) = Lists entry frame × ListAll entries frames
