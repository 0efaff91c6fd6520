-- Access units: access_unit() of the RFC, a signature and PBUs one after another.
use Rattle.std.specs.Prelude.{◌≡◌, ◌≢◌, ℕ, ◌+◌, List, [], ◌∷◌, ◌++◌, length, take, drop, Ok, Err}
use Rattle.apv_base.specs.declared.rules.Rule.{Rule}
use Rattle.apv_base.specs.declared.rules.Rule.TheVariants.{V3}
use Rattle.apv_base.specs.declared.rules.HeadEnd.{HeadEnd}
use Rattle.apv_base.specs.declared.rules.HeadEnd.TheVariants.{Rule as breaks, Wide}
use Rattle.apv_base.specs.declared.rules.UnitEnd.{UnitEnd}
use Rattle.apv_base.specs.declared.rules.UnitEnd.TheVariants.{Broken, Limit}
use Rattle.apv_base.specs.model.Answer.{place_of}
use Rattle.apv_base.specs.model.Table.{walk}
use Rattle.apv_base.specs.model.Sequence.{Sequence}
use Rattle.apv_base.specs.model.Pbu.{Pbu, pbu_table, signature}
use Rattle.apv_base.specs.model.Body.{Reach, body_kind_of, IsSoundBody, BodyBreaks}

-- the fields before a body are these, the size of the body among them
abbrev pub HasPbuHeader : List ℕ → ℕ → ℕ → List ℕ → List ℕ → Type 0
HasPbuHeader xs kind group body after =
    walk 256 pbu_table xs ≡ Ok ((length body + 4) ∷ kind ∷ group ∷ 0 ∷ [], body ++ after)

-- a PBU that breaks no rule is at the start of xs
pub record PbuAt (reach : Reach) (xs : List ℕ) (pbu : Pbu) (after : List ℕ) : Type 0 where
  pub header : HasPbuHeader xs pbu.kind pbu.group pbu.body after
  pub sound : IsSoundBody (body_kind_of reach pbu.kind) pbu.body pbu.payloads

-- the first rule that is broken where a PBU should be at the start of xs, or the limit that isn't kept, and the tile
pub data PbuBreaks (reach : Reach) (xs : List ℕ) : ℕ → HeadEnd → Type 0 where
  in_header : (rule : Rule) → walk 256 pbu_table xs ≡ Err rule → PbuBreaks reach xs 0 (breaks rule)
  in_body : (tile : ℕ) (end : HeadEnd) (kind group : ℕ) (body after : List ℕ) → HasPbuHeader xs kind group body after
      → BodyBreaks (body_kind_of reach kind) body tile end → PbuBreaks reach xs tile end

-- the access unit breaks no rule, and these are its PBUs, one at least
pub record Structure (reach : Reach) (unit : List ℕ) (pbus : List Pbu) : Type 0 where
  pub signed : take 4 unit ≡ signature
  pub some : pbus ≢ []
  pub sequence : Sequence (PbuAt reach) (drop 4 unit) pbus []

-- why the nth unit of a file isn't sound, at a PBU and a tile
abbrev pub unit_end : ℕ → ℕ → ℕ → HeadEnd → UnitEnd
unit_end n pbu tile (breaks rule) =
    Broken (record { rule = rule; place = record { unit = n; pbu = pbu; tile = tile; comp = 0 } })
unit_end n pbu tile (Wide count) = Limit count

-- the first rule that the access unit breaks, which is the nth of its file, and the place; or the limit
pub data StructureBreaks (reach : Reach) (n : ℕ) (unit : List ℕ) : UnitEnd → Type 0 where
  unsigned : take 4 unit ≢ signature
      → StructureBreaks reach n unit (Broken (record { rule = V3; place = place_of n 0 }))
  broken : (tile : ℕ) (end : HeadEnd) (pbus : List Pbu) (rest : List ℕ) → take 4 unit ≡ signature
      → Sequence (PbuAt reach) (drop 4 unit) pbus rest
      → (pbus ≢ [] → rest ≢ []) → PbuBreaks reach rest tile end → StructureBreaks reach n unit
      (unit_end n (length pbus) tile end)
