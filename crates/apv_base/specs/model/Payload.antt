-- Metadata payloads: metadata() of the RFC, with its payload types and sizes in bytes FF and one byte below FF.
use Rattle.std.specs.Prelude.{◌≡◌, ℕ, ◌-◌, List, [], ◌∷◌, length, Ok, Err}
use Rattle.std.specs.List.{flat_map}
use Rattle.apv_base.specs.declared.rules.Rule.{Rule}
use Rattle.apv_base.specs.declared.rules.Rule.TheVariants.{V26}
use Rattle.apv_base.specs.model.Table.{Table, done, coded, plain, spell, walk}
use Rattle.apv_base.specs.model.Sequence.{Sequence}

-- a payload: its type and its bytes
pub record Payload : Type 0 where
  pub kind : ℕ
  pub bytes : List ℕ

-- the fields of a payload: its type, its size and its bytes
abbrev pub payload_table : Table Rule
payload_table = coded V26 (λ kind. coded V26 (λ size. plain size V26 done))

-- the values of a payload
abbrev pub payload_values : Payload → List ℕ
payload_values p = p.kind ∷ length p.bytes ∷ p.bytes

-- how a payload is spelled
abbrev pub payload_bytes : Payload → List ℕ
payload_bytes p = spell 256 payload_table (payload_values p)

-- payloads one after another
abbrev pub payloads_bytes : List Payload → List ℕ
payloads_bytes ps = flat_map payload_bytes ps

-- a payload is at the start of xs
abbrev pub PayloadAt : List ℕ → Payload → List ℕ → Type 0
PayloadAt xs p after = walk 256 payload_table xs ≡ Ok (payload_values p, after)

-- the list is these payloads and nothing else
abbrev pub ArePayloads : List ℕ → List Payload → Type 0
ArePayloads xs ps = Sequence PayloadAt xs ps []

-- after some whole payloads one follows that isn't whole, and begins at this byte of the list
pub record HasPartialPayload (xs : List ℕ) (byte : ℕ) : Type 0 where
  pub whole : List Payload
  pub rest : List ℕ
  pub place : byte ≡ length xs - length rest
  pub sequence : Sequence PayloadAt xs whole rest
  pub more : length rest ≡ 0 → ⊥
  pub partial : walk 256 payload_table rest ≡ Err V26
