-- Payloads are spelled by their bytes.
use Rattle.std.proofs.Common.{◌≡◌, ℕ, suc, List, [], ◌∷◌, ◌++◌, sym, ap, ◌∙◌, append-nil, append_assoc, lit<, lit≤}
use Rattle.apv_base.specs.model.Bits.{AreBytes}
use Rattle.apv_base.specs.model.Sequence.{Sequence}
use Rattle.apv_base.specs.model.Payload.{Payload, payload_table, payload_values, payload_bytes, payloads_bytes, PayloadAt, ArePayloads}
use Rattle.apv_base.proofs.TableLemmas.{walked-spelled}

-- what follows a prefix of bytes is bytes
pub bytes-after : (prefix after : List ℕ) → AreBytes (prefix ++ after) → AreBytes after
bytes-after [] after h = h
bytes-after (x ∷ prefix) after h = bytes-after prefix after (λ i. h (suc i))

pub bytes-along : (xs ys : List ℕ) → xs ≡ ys → AreBytes xs → AreBytes ys
bytes-along xs ys e h = rw (← e) h

pub payload-spelled : (xs : List ℕ) (p : Payload) (after : List ℕ) → AreBytes xs → PayloadAt xs p after → xs ≡ payload_bytes p ++ after
payload-spelled xs p after h at = walked-spelled 256 payload_table xs (payload_values p) after (lit< tt) (lit≤ tt) h at

pub sequence-spelled : (xs : List ℕ) (ps : List Payload) (rest : List ℕ) → AreBytes xs → Sequence PayloadAt xs ps rest → xs ≡ payloads_bytes ps ++ rest
sequence-spelled xs [] rest h row = row
sequence-spelled xs (p ∷ ps) rest h row =
    let prefix = payload-spelled xs p row.0 h row.1 in
    let bytes : AreBytes row.0 = bytes-after (payload_bytes p) row.0 (bytes-along xs (payload_bytes p ++ row.0) prefix h) in
    let later = sequence-spelled row.0 ps rest bytes row.2 in
    prefix ∙ ap (λ (ys : List ℕ). payload_bytes p ++ ys) later ∙ sym (append_assoc (payload_bytes p) (payloads_bytes ps) rest)

pub payloads-spelled : (xs : List ℕ) (ps : List Payload) → AreBytes xs → ArePayloads xs ps → xs ≡ payloads_bytes ps
payloads-spelled xs ps h row = sequence-spelled xs ps [] h row ∙ append-nil (payloads_bytes ps)
