-- The calls on files in memory: how many of each kind were made, and which are set to fail.
use Rattle.std.specs.Prelude.{◌≡◌, ℕ, ◌+◌, ◌-◌, ◌^◌, min, List, [], ◌∷◌, ◌++◌, Bool, true, false, nat_eq, if◌then◌else◌}
use Rattle.std.specs.List.{list_any}
use Rattle.apv_base.specs.declared.slot.Slot.{Slot}
use Rattle.apv_base.specs.declared.slot.Slot.TheVariants.{Console as ConsoleSlot}
use Rattle.apv_files.specs.declared.calls.Call.{Call}
use Rattle.apv_files.specs.declared.calls.Call.TheVariants.{Open, Read, Write, Console}
use Rattle.apv_files.specs.declared.calls.Calls.{Calls}
use Rattle.apv_files.specs.declared.calls.KindOfCalls.{KindOfCalls}

-- The calls of one kind: how many were made, up to the last value of u64, and the numbers of those that are set to
-- fail. The next call has the number `made`.
pub record CallsView : Type 0 where
  pub made : ℕ
  pub failing : List ℕ

abbrev pub kind_view : KindOfCalls → CallsView
kind_view calls = record { made = calls.made; failing = calls.failing.items }

-- the calls of a kind
abbrev pub calls_of : Calls → Call → CallsView
calls_of calls Open = kind_view calls.open
calls_of calls Read = kind_view calls.read
calls_of calls Write = kind_view calls.write
calls_of calls Console = kind_view calls.console

abbrev pub same_call : Call → Call → Bool
same_call Open Open = true
same_call Read Read = true
same_call Write Write = true
same_call Console Console = true
same_call _ _ = false

-- the kind of a write to a slot
abbrev pub write_call : Slot → Call
write_call ConsoleSlot = Console
write_call _ = Write

-- before any call, with none set to fail
abbrev pub no_calls : CallsView
no_calls = record { made = 0; failing = [] }

-- whether the next call is set to fail
abbrev pub fails_next : CallsView → Bool
fails_next calls = list_any (λ number. nat_eq number calls.made) calls.failing

-- after one more call
abbrev pub counted : CallsView → CallsView
counted calls = record calls { made = min (calls.made + 1) (2 ^ 64 - 1) }

-- with the call of a number set to fail as well
abbrev pub with_failure : ℕ → CallsView → CallsView
with_failure number calls = record calls { failing = calls.failing ++ number ∷ [] }

-- a call of a kind was made, and all else stayed
abbrev pub CountsCall : Call → (Call → CallsView) → (Call → CallsView) → Type 0
CountsCall call old new = (kind : Call) → new kind ≡ (if same_call kind call then counted (old kind) else old kind)

-- the call of a kind with a number was set to fail, and all else stayed
abbrev pub SetsToFail : Call → ℕ → (Call → CallsView) → (Call → CallsView) → Type 0
SetsToFail call number old new =
    (kind : Call) → new kind ≡ (if same_call kind call then with_failure number (old kind) else old kind)
