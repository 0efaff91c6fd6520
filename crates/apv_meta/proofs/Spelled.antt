-- The bytes of numbers of bytes FF and one below FF, and of payloads.
use Rattle.std.proofs.Common.{◌≡◌, ℕ, ◌+◌, ◌/◌, ◌%◌, ◌≤◌, List, [], ◌∷◌, ◌++◌, length, replicate, take, drop, sym, ap, ap₂, ◌∙◌, arith, length-append, length-drop}
use Rattle.std.proofs.Math.ListN.{set}
use Rattle.std.proofs.lemmas.List.{length-replicate, length-set, take_at, take_all, take_more_set, append-nil}
use Rattle.apv_base.specs.model.Table.{coded_number, spell}
use Rattle.apv_base.specs.model.Payload.{payload_bytes}

pub length-coded : (n : ℕ) → length (coded_number n) ≡ n / 255 + 1
unfolding coded_number
length-coded n = length-append (replicate (n / 255) 255) ((n % 255) ∷ []) ∙ ap (λ (k : ℕ). k + 1) (length-replicate {A = ℕ} (n / 255) 255)

-- bytes FF, and the last byte set after them
pub last-set : (out filled : List ℕ) (last v : ℕ) → length filled ≡ last → last + 1 ≡ length out → filled ≡ replicate last 255 → length out ≡ v / 255 + 1 → set (filled ++ drop last out) last (v % 255) ≡ coded_number v
unfolding coded_number
last-set out filled last v len end e room =
    let before : List ℕ = filled ++ drop last out in
    let count : last ≡ v / 255 = omega (arith, end, room) in
    let all : length before ≡ last + 1 = length-append filled (drop last out) ∙ omega (arith, length-drop last out, len, end) in
    let after : length (set before last (v % 255)) ≤ last + 1 = omega (arith, length-set before last (v % 255), all) in
    sym (take_all (last + 1) (set before last (v % 255)) after)
    ∙ take_more_set before last (v % 255) (omega (arith, all))
    ∙ ap (λ (xs : List ℕ). xs ++ (v % 255) ∷ []) (take_at filled (drop last out) last len ∙ e ∙ ap (λ (k : ℕ). replicate k 255) count)

-- ---- payloads

pub payload-is : (kind : ℕ) (bytes : List ℕ) → payload_bytes (record { kind = kind; bytes = bytes }) ≡ coded_number kind ++ (coded_number (length bytes) ++ bytes)
unfolding spell
payload-is kind bytes =
    ap (λ (xs : List ℕ). coded_number kind ++ (coded_number (length bytes) ++ xs)) (append-nil (take (length bytes) bytes) ∙ take_all (length bytes) bytes (omega arith))

-- its length
pub payload-length : (kind : ℕ) (bytes : List ℕ) (size : ℕ) → length bytes ≡ size → length (payload_bytes (record { kind = kind; bytes = bytes })) ≡ (kind / 255 + 1) + ((size / 255 + 1) + size)
payload-length kind bytes size e =
    let len : length (coded_number (length bytes)) ≡ size / 255 + 1 = length-coded (length bytes) ∙ ap (λ (n : ℕ). n / 255 + 1) e in
    ap (length {A = ℕ}) (payload-is kind bytes)
    ∙ length-append (coded_number kind) (coded_number (length bytes) ++ bytes)
    ∙ ap₂ (λ (m n : ℕ). m + n) (length-coded kind) (length-append (coded_number (length bytes)) bytes ∙ ap₂ (λ (m n : ℕ). m + n) len e)

pub payload-put : (kind size : ℕ) (bytes a b c : List ℕ) → length bytes ≡ size → a ≡ coded_number kind → b ≡ coded_number size → c ≡ bytes → a ++ (b ++ c) ≡ payload_bytes (record { kind = kind; bytes = bytes })
payload-put kind size bytes a b c len e f g =
    ap₂ (λ (x y : List ℕ). x ++ y) e (ap₂ (λ (x y : List ℕ). x ++ y) (f ∙ ap coded_number (sym len)) g) ∙ sym (payload-is kind bytes)
