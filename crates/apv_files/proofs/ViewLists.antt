-- The views of the elements of a list that has one for each slot, after one element changes.
use Rattle.std.proofs.Common.{◌≡◌, ℕ, ◌<◌, List, None, length, get_or, nat_eq, ap, sym, ◌∙◌, inl, inr, arith}
use Rattle.std.proofs.Math.ListN.{set}
use Rattle.std.proofs.lemmas.Bool.{OnFalse_from, eqb-false, cases_eq}
use Rattle.std.proofs.lemmas.List.{map-set, get_or-map, get_or-set_same, get_or-set_other}
use Rattle.std.proofs.lemmas.Grind.{common_steps}
use Rattle.std.specs.Prelude.{map}
use Rattle.std.specs.Bool.{OnFalse}
use Rattle.apv_files.specs.SlotView.{SlotView, view_by, fresh_view}
use Rattle.apv_files.specs.declared.files.Mode.{Mode}
use Rattle.apv_files.specs.declared.files.Mode.TheVariants.{Closed}

-- the view of the element at an index
pub view_by-at : {X : Type 0} (f : X → SlotView) (xs : List X) (i n : ℕ) (d : X) → i ≡ n → i < length xs → view_by f xs n ≡ f (get_or xs i d)
view_by-at f xs i n d e small = rw (← e) (get_or-map f xs i d (fresh_view None Closed) small)

-- what is written is there
pub view_by-set_same : {X : Type 0} (f : X → SlotView) (xs : List X) (i n : ℕ) (x : X) → i ≡ n → i < length xs → view_by f (set xs i x) n ≡ f x
view_by-set_same f xs i n x e small =
    rw (← e, get_or-map f (set xs i x) i x (fresh_view None Closed) (grind (arith, common_steps))) (ap f (get_or-set_same xs i x x small))

-- and nothing else changes
pub view_by-set_other : {X : Type 0} (f : X → SlotView) (xs : List X) (i n m : ℕ) (x : X) → i ≡ n → OnFalse (nat_eq m n) (view_by f (set xs i x) m ≡ view_by f xs m)
view_by-set_other f xs i n m x e =
    OnFalse_from (nat_eq m n) (view_by f (set xs i x) m ≡ view_by f xs m) (λ no.
    rw map-set (get_or-set_other (map f xs) i m (f x) (fresh_view None Closed) (λ h. eqb-false m n no (h ∙ e))))

-- what a call on the element of a slot does, it does to the slot's view
pub view_by-call : {X : Type 0} (f : X → SlotView) (xs : List X) (i n : ℕ) (d x : X) (Does : SlotView → SlotView → Type 0) → i ≡ n → i < length xs → Does (f (get_or xs i d)) (f x) → Does (view_by f xs n) (view_by f (set xs i x) n)
view_by-call f xs i n d x Does e small done = rw (view_by-at f xs i n d e small, view_by-set_same f xs i n x e small) done

-- a call on one slot leaves a mode of another, and of its own where its element has it
pub view_by-mode : {X : Type 0} (f : X → SlotView) (xs : List X) (i n : ℕ) (x : X) (mode : Mode) → i < length xs → (i ≡ n → (f x).mode ≡ mode) → (view_by f xs n).mode ≡ mode → (view_by f (set xs i x) n).mode ≡ mode
view_by-mode f xs i n x mode small here there =
    elim (cases_eq i n) [
      | inl e ↦ ap (λ (view : SlotView). view.mode) (view_by-set_same f xs i n x e small) ∙ here e
      | inr ne ↦
          let kept : view_by f (set xs i x) n ≡ view_by f xs n = rw map-set (get_or-set_other (map f xs) i n (f x) (fresh_view None Closed) (λ h. ne (sym h))) in
          ap (λ (view : SlotView). view.mode) kept ∙ there
    ]

-- a call that leaves the mode of its own slot leaves the mode of each
pub view_by-same_mode : {X : Type 0} (f : X → SlotView) (xs : List X) (i n : ℕ) (d x : X) (mode : Mode) → i < length xs → (f x).mode ≡ (f (get_or xs i d)).mode → (view_by f xs n).mode ≡ mode → (view_by f (set xs i x) n).mode ≡ mode
view_by-same_mode f xs i n d x mode small same there =
    view_by-mode f xs i n x mode small (λ e. same ∙ sym (ap (λ (view : SlotView). view.mode) (view_by-at f xs i n d e small)) ∙ there) there
