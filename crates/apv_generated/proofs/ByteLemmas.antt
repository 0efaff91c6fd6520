-- The bytes of generated pictures, appended part by part.
use Rattle.std.proofs.Common.{◌≡◌, ℕ, suc, ◌+◌, ◌-◌, ◌<◌, List, [], ◌∷◌, ◌++◌, ap, sym, ◌∙◌, arith, append_assoc, drop, length}
use Rattle.std.proofs.Math.Seq.{drop-length}
use Rattle.std.proofs.lemmas.List.{append-nil}
use Rattle.std.specs.List.{flat_map, range_with_len}
use Rattle.apv_base.specs.model.Picture.{Samples, joined, picture}
use Rattle.apv_encoding.specs.Generated.{generated_format, generated_from, generated_picture}
use Rattle.apv_generated.specs.Bytes.{component_bytes}
use Rattle.apv_generated.proofs.ListLemmas.{joined-next}

-- one more piece is appended
pub push-more : (start mid new : List ℕ) (n : ℕ) (f : ℕ → List ℕ) → mid ≡ start ++ joined n f → new ≡ mid ++ f n → new ≡ start ++ joined (n + 1) f
push-more start mid new n f so more =
    more ∙ ap (λ (xs : List ℕ). xs ++ f n) so ∙ append_assoc start (joined n f) (f n) ∙ ap (λ (xs : List ℕ). start ++ xs) (sym (joined-next n f))

-- two bytes are appended
pub push-two : (mid one new : List ℕ) (a b : ℕ) → one ≡ mid ++ a ∷ [] → new ≡ one ++ b ∷ [] → new ≡ mid ++ a ∷ b ∷ []
push-two mid one new a b first second = second ∙ ap (λ (xs : List ℕ). xs ++ b ∷ []) first ∙ append_assoc mid (a ∷ []) (b ∷ [])

-- a picture is its three components
picture-parts : (samples : Samples) → component_bytes samples 0 640 360 ++ (component_bytes samples 1 320 360 ++ component_bytes samples 2 320 360) ≡ picture generated_format samples
unfolding picture
picture-parts samples = ap (λ (xs : List ℕ). component_bytes samples 0 640 360 ++ (component_bytes samples 1 320 360 ++ xs)) (sym (append-nil (component_bytes samples 2 320 360)))

pub push-picture : (samples : Samples) (start one two new : List ℕ) → one ≡ start ++ component_bytes samples 0 640 360 → two ≡ one ++ component_bytes samples 1 320 360 → new ≡ two ++ component_bytes samples 2 320 360
    → new ≡ start ++ picture generated_format samples
push-picture samples start one two new first second third =
    let a = component_bytes samples 0 640 360 in
    let b = component_bytes samples 1 320 360 in
    let c = component_bytes samples 2 320 360 in
    third ∙ ap (λ (xs : List ℕ). xs ++ c) (second ∙ ap (λ (xs : List ℕ). xs ++ b) first) ∙ append_assoc (start ++ a) b c ∙ append_assoc start a (b ++ c) ∙ ap (λ (xs : List ℕ). start ++ xs) (picture-parts samples)

-- the pictures from one on are that one and those after it
pub generated-next : (seed n : ℕ) → n < 8 → picture generated_format (generated_picture seed n) ++ generated_from seed (n + 1) ≡ generated_from seed n
generated-next seed n less =
    let e : 8 - n ≡ suc (8 - (n + 1)) = omega (arith, less) in
    ap (λ (k : ℕ). flat_map (λ (frame : ℕ). picture generated_format (generated_picture seed frame)) (range_with_len n k)) (sym e)

-- none follow the last one
pub generated-end : (seed n : ℕ) → n ≡ 8 → generated_from seed n ≡ []
generated-end seed n is = ap (generated_from seed) is

-- ---- what is left

-- where all of a picture was read, the same bytes are left after the next one was made
pub made-left : (seed n taken : ℕ) (old cleared new : List ℕ) → taken ≡ length old → n < 8 → cleared ≡ [] → new ≡ cleared ++ picture generated_format (generated_picture seed n) → new ++ generated_from seed (n + 1) ≡ drop taken old ++ generated_from seed n
made-left seed n taken old cleared new all less none made =
    let first : new ≡ picture generated_format (generated_picture seed n) = made ∙ ap (λ (xs : List ℕ). xs ++ picture generated_format (generated_picture seed n)) none in
    let gone : drop taken old ≡ [] = ap (λ (k : ℕ). drop k old) all ∙ drop-length old in
    ap (λ (xs : List ℕ). xs ++ generated_from seed (n + 1)) first ∙ generated-next seed n less ∙ ap (λ (xs : List ℕ). xs ++ generated_from seed n) (sym gone)
