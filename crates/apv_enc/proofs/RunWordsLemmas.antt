-- Words give one list of settings or have one fault, and not both.
use Rattle.std.proofs.Common.{◌≡◌, List, String, map, refl, subst, is_some, true}
use Rattle.std.specs.Prelude.{string_bytes}
use Rattle.std.specs.declared.alloc.Global.{Global}
use Rattle.apv_base.specs.declared.options.UsageKind.{UsageKind}
use Rattle.apv_base.specs.declared.options.WordsEnd.{WordsEnd}
use Rattle.apv_base.specs.declared.options.WordsEnd.TheVariants.{Usage}
use Rattle.apv_words.specs.Encoder.{HasEncFiles, HasEncSettings, built_enc_table, enc_settings_by}
use Rattle.apv_words.specs.Ends.{Refuses}
use Rattle.apv_words.specs.Fault.{HasFault}
use Rattle.apv_words.specs.declared.encoder.EncSettings.{EncSettings}
use Rattle.apv_words.proofs.LawLemmas.{one_fault, one_given}
use Rattle.apv_enc.specs.Run.{HaveFault, WithSettings}
use Rattle.apv_words.proofs.EncoderLemmas.{has_files}

module _ (words : List (String Global)) where
  pub no-fault : (settings : EncSettings) (kind : UsageKind) → HasEncSettings built_enc_table (map string_bytes words) settings → HaveFault words kind → ⊥
  no-fault settings kind h f = (one_given enc_settings_by built_enc_table refl (map string_bytes words)).1 settings kind h f

  pub same-fault : (one other : UsageKind) → HaveFault words one → HaveFault words other → one ≡ other
  same-fault one other f g = one_fault built_enc_table refl (map string_bytes words) one other f g

  pub with-settings : (settings : EncSettings) (claim : EncSettings → Type 0) → HasEncSettings built_enc_table (map string_bytes words) settings → claim settings → WithSettings words claim
  with-settings settings claim h holds other k = subst claim ((one_given enc_settings_by built_enc_table refl (map string_bytes words)).0 settings other h k) holds

  -- which files settings name
  pub files-given : (settings : EncSettings) → HasEncSettings built_enc_table (map string_bytes words) settings → HasEncFiles settings
  files-given settings h = has_files (map string_bytes words) settings h

  -- a refusal by a kind is by a fault of the words
  pub fault-of : (end : WordsEnd) (kind : UsageKind) → end ≡ Usage kind → Refuses (HasFault built_enc_table (map string_bytes words)) end → HaveFault words kind
  fault-of end kind is refuses = subst (Refuses (HasFault built_enc_table (map string_bytes words))) is refuses
