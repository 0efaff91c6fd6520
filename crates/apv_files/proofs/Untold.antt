-- A slot of which no byte is known: a call on it owes that its count fits.
use Rattle.std.proofs.Common.{◌≡◌, ℕ, zero, suc, ◌<◌, ◌≤◌, List, [], ◌∷◌, length, None, refl, ap, ◌∙◌}
use Rattle.apv_files.specs.SlotView.{SlotView, Took, Put, Created}
use Rattle.apv_files.specs.SlotStatus.{status_in}
use Rattle.apv_files.specs.declared.files.Mode.TheVariants.{Writing, Reading}
use Rattle.apv_files.specs.declared.status.SlotStatus.{SlotStatus}

pub record IsUntold (view : SlotView) : Type 0 where
  pub left : view.left ≡ None
  pub written : view.written ≡ None

-- no byte is known of a slot over real files
pub status_in-untold : (statuses : List SlotStatus) (n : ℕ) → IsUntold (status_in statuses n)
status_in-untold [] n = record { left = refl; written = refl }
status_in-untold (s ∷ statuses) zero = record { left = refl; written = refl }
status_in-untold (s ∷ statuses) (suc n) = status_in-untold statuses n

-- a read
pub took-untold : (view : SlotView) (n : ℕ) (buf : List ℕ) → IsUntold view → n ≤ length buf → Took view n buf view
took-untold view n buf untold fits = record {
  fits = fits;
  prefix = rw untold.left refl;
  end = λ none. rw untold.left tt;
  rest = refl;
}

-- a write
pub put-untold : (view : SlotView) (n : ℕ) (piece : List ℕ) → IsUntold view → n ≤ length piece → (0 < length piece → 0 < n) → Put view n piece view
put-untold view n piece untold fits some = record {
  fits = fits;
  some = some;
  rest = rw untold.written refl;
}

-- an open
pub opened-untold : (old new : SlotView) (name : List ℕ) → IsUntold old → new ≡ record old { mode = Reading; name = name } → new ≡ record old { mode = Reading; name = name; left = None }
opened-untold old new name untold e = e ∙ ap (λ l. record old { mode = Reading; name = name; left = l }) untold.left

-- a create
pub created-untold : (old new : SlotView) (name : List ℕ) → IsUntold old → new ≡ record old { mode = Writing; name = name } → Created old name new
created-untold old new name untold e = record {
  empty = rw (e, untold.written) tt;
  rest = rw e refl;
}
