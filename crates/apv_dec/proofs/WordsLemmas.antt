-- Words give one list of settings or have one fault, and not both.
use Rattle.std.proofs.Common.{◌≡◌, List, String, map, refl, subst, is_some, true, Ok}
use Rattle.std.specs.Prelude.{string_bytes}
use Rattle.std.specs.declared.alloc.Global.{Global}
use Rattle.apv_base.specs.declared.options.UsageKind.{UsageKind}
use Rattle.apv_words.specs.Decoder.{HasSettings, dec_table}
use Rattle.apv_base.specs.declared.options.WordsEnd.{WordsEnd}
use Rattle.apv_base.specs.declared.options.WordsEnd.TheVariants.{Usage}
use Rattle.apv_words.specs.Ends.{Refuses}
use Rattle.apv_words.specs.Fault.{HasFault}
use Rattle.apv_words.specs.declared.decoder.DecSettings.{DecSettings}
use Rattle.apv_words.proofs.DecoderLemmas.{input_of}
use Rattle.apv_words.proofs.LawLemmas.{one_fault, one_settings}
use Rattle.apv_dec.specs.Settings.{HaveFault, WithSettings}

module _ (words : List (String Global)) where
  pub no-fault : (settings : DecSettings) (kind : UsageKind) → HasSettings dec_table (map string_bytes words) settings → HaveFault words kind → ⊥
  no-fault settings kind h f = (one_settings dec_table refl (map string_bytes words)).1 settings kind h f

  pub same-fault : (one other : UsageKind) → HaveFault words one → HaveFault words other → one ≡ other
  same-fault one other f g = one_fault dec_table refl (map string_bytes words) one other f g

  pub with-settings : (settings : DecSettings) (claim : DecSettings → Type 0) → HasSettings dec_table (map string_bytes words) settings → claim settings → WithSettings words claim
  with-settings settings claim h holds other k = subst claim ((one_settings dec_table refl (map string_bytes words)).0 settings other h k) holds

  -- settings name an input
  pub has-input : (settings : DecSettings) → HasSettings dec_table (map string_bytes words) settings → is_some settings.input ≡ true
  has-input settings h = input_of dec_table (map string_bytes words) (Ok settings) refl h

  -- a refusal by a kind is by a fault of the words
  pub fault-of : (end : WordsEnd) (kind : UsageKind) → end ≡ Usage kind → Refuses (HasFault dec_table (map string_bytes words)) end → HaveFault words kind
  fault-of end kind is refuses = subst (Refuses (HasFault dec_table (map string_bytes words))) is refuses
