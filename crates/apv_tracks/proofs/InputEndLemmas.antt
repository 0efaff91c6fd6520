-- Where Input has ended, the other slots must have ended too.
use Rattle.std.proofs.Common.{◌≡◌, ℕ, suc, List, [], ◌∷◌, ◌++◌, map, refl, sym, ap, ◌∙◌, subst, arith}
use Rattle.std.specs.Prelude.{Contains}
use Rattle.std.specs.List.{AllByRecursion}
use Rattle.std.specs.Io.KnownBytes.{IsAtEnd}
use Rattle.std.proofs.lemmas.List.Elements.{Contains-append_left}
use Rattle.apv_base.specs.declared.exits.Exit.{Exit}
use Rattle.apv_base.specs.declared.exits.Exit.TheVariants.{BadVideo, Done, Memory, ReadFailed}
use Rattle.apv_base.specs.declared.exits.VideoRule.TheVariants.{Extra}
use Rattle.apv_base.specs.declared.slot.Slot.{Slot}
use Rattle.apv_base.specs.declared.slot.Slot.TheVariants.{Input}
use Rattle.apv_encoding.specs.Settings.{Source, Track}
use Rattle.apv_encoding.specs.Tracks.{Contents, ended, extra}
use Rattle.apv_encoding.proofs.TracksLemmas.{contains-middle}
use Rattle.apv_files.specs.Loops.{TookAll, TookFailed}
use Rattle.apv_files.specs.SlotView.{OnlyAt, SlotView}
use Rattle.apv_files.proofs.Many.{took-none}
use Rattle.apv_video.specs.declared.open.Shape.{Shape}
use Rattle.apv_tracks.specs.PictureSteps.{FurtherEnd, GoesOn, HaveEnded, IsUnreadAt, LacksMemoryAt, goes_on, have_ended, is_unread, lacks_memory}
use Rattle.apv_tracks.specs.Pictures.{AreJoined, IsWithinFrame, by_fault, by_memory, by_stop}
use Rattle.apv_tracks.specs.declared.kinds.TrackKind.{TrackKind}
use Rattle.apv_tracks.proofs.KindLemmas.{kind_of}
use Rattle.apv_tracks.proofs.PictureEndLemmas.{EndsWithin, joined-at, left_by, same-within, told-by}
use Rattle.apv_tracks.proofs.SlotReadLemmas.{AreApart, at-it, at-other, content, content-end, fault-others, only-left, read-fault, same-other, took-first, with_at}
use Rattle.apv_tracks.proofs.TrackPlaceLemmas.{HaveOwnSlots, KindParts, all-among, all-from, apart-before, kind-among, kind-parts, track-among}

module _ (source : Source) (first : Track) (more : List Track) (input : first.slot ≡ Input) (own : HaveOwnSlots (first ∷ more)) (shape : Shape) (number : ℕ) (old mid new : Slot → SlotView)
    (same : (slot : Slot) → mid slot ≡ old slot) (end : IsAtEnd (mid Input).left) where
  abbrev tracks : List Track
  tracks = first ∷ more

  abbrev Ends : Exit → Type 0
  Ends exit = EndsWithin source tracks shape number old new exit

  abbrev nothing : Contents
  nothing slot = []

  none-taken : (slot : Slot) → TookAll (old slot) [] (mid slot)
  none-taken slot = subst (λ (view : SlotView). TookAll (old slot) [] view) (sym (same slot)) (took-none (old slot))

  input-apart : (track : Track) → Contains more track → AreApart Input track.slot
  input-apart track among = subst (λ (slot : Slot). AreApart slot track.slot) input (λ e. all-among (λ (t : Track). AreApart t.slot first.slot) more track own.0 among (sym e))

  input-same : (slot : Slot) → OnlyAt slot mid new → AreApart Input slot → IsWithinFrame shape (old Input) (new Input)
  input-same slot elsewhere apart = same-within shape (old Input) (new Input) (same-other old mid new slot elsewhere Input apart ∙ same Input)

  -- all slots have ended
  all-ended : HaveEnded (map kind_of more) mid new → Ends Done
  all-ended h =
      let at_end : (track : Track) → IsAtEnd (mid track.slot).left → IsAtEnd (new track.slot).left = λ track e. subst (λ (view : SlotView). IsAtEnd view.left) (sym (h.same track.slot)) e in
      let each : AllByRecursion (λ (track : Track). IsAtEnd (new track.slot).left) tracks = (
        at_end first (subst (λ (slot : Slot). IsAtEnd (mid slot).left) (sym input) end),
        all-from (λ (track : Track). IsAtEnd (new track.slot).left) more (λ track among. at_end track (h.ended (kind_of track) (kind-among more track among))),
      ) in
      let took : (slot : Slot) → TookAll (old slot) (nothing slot) (new slot) = λ slot. subst (λ (view : SlotView). TookAll (old slot) [] view) (sym (h.same slot)) (none-taken slot) in
      record {
        end = by_stop Done (record {
          left = left_by nothing new;
          told = told-by tracks old new nothing took;
          stops = λ all joined. ended (λ track among. joined-at tracks all (left_by nothing new) track joined among ∙ content-end (new track.slot).left (all-among (λ (t : Track). IsAtEnd (new t.slot).left) tracks track each among));
          read = λ track among. (took track.slot).rest;
          end = λ e track among. all-among (λ (t : Track). IsAtEnd (new t.slot).left) tracks track each among;
        });
        within = same-within shape (old Input) (new Input) (h.same Input ∙ same Input);
      }

  -- a slot goes on
  one-goes-on : (before : List Track) (track : Track) (later : List Track) (byte : ℕ) → more ≡ before ++ track ∷ later → AllByRecursion (λ (other : Track). IsAtEnd (mid other.slot).left) before → TookAll (mid track.slot) (byte ∷ []) (new track.slot) → OnlyAt track.slot mid new
      → Ends (BadVideo (record { slot = track.slot; rule = Extra; frame = number }))
  one-goes-on before track later byte parts ends took elsewhere =
      let exit : Exit = BadVideo (record { slot = track.slot; rule = Extra; frame = number }) in
      let whole : tracks ≡ (first ∷ before) ++ track ∷ later = ap (λ (ts : List Track). first ∷ ts) parts in
      let apart : AllByRecursion (λ (other : Track). AreApart other.slot track.slot) (first ∷ before) = apart-before (first ∷ before) track later (subst HaveOwnSlots whole own) in
      let taken : Contents = with_at track.slot (byte ∷ []) nothing in
      let left : Contents = left_by taken new in
      let all_took : (slot : Slot) → TookAll (old slot) (taken slot) (new slot) = took-first old mid new track.slot elsewhere nothing (byte ∷ []) none-taken (same track.slot) took in
      let each : AllByRecursion (λ (other : Track). IsAtEnd (mid other.slot).left) (first ∷ before) = (subst (λ (slot : Slot). IsAtEnd (mid slot).left) (sym input) end, ends) in
      let none : (all : Contents) → AreJoined tracks all left (λ slot. []) → (other : Track) → Contains (first ∷ before) other → all other.slot ≡ [] = λ all joined other among.
      let apart_is : AreApart other.slot track.slot = all-among (λ (t : Track). AreApart t.slot track.slot) (first ∷ before) other apart among in
      let at_end : IsAtEnd (new other.slot).left = subst (λ (view : SlotView). IsAtEnd view.left) (sym (same-other old mid new track.slot elsewhere other.slot apart_is)) (all-among (λ (t : Track). IsAtEnd (mid t.slot).left) (first ∷ before) other each among) in
      let in_all : Contains tracks other = subst (λ (ts : List Track). Contains ts other) (sym whole) (Contains-append_left (first ∷ before) (track ∷ later) other among) in
      joined-at tracks all left other joined in_all ∙ ap (λ (xs : List ℕ). xs ++ content (new other.slot)) (at-other track.slot other.slot (byte ∷ []) nothing apart_is) ∙ content-end (new other.slot).left at_end in
      record {
        end = by_stop exit (record {
          left = left;
          told = told-by tracks old new taken all_took;
          stops = λ all joined. extra track (sym (ap all input) ∙ none all joined first (0, omega arith, refl))
              (record { before = first ∷ before; later = later; parts = whole; each = none all joined })
              (λ e. let is : (byte ∷ []) ++ content (new track.slot) ≡ [] = sym (ap (λ (xs : List ℕ). xs ++ content (new track.slot)) (at-it track.slot (byte ∷ []) nothing)) ∙ sym (joined-at tracks all left track joined (contains-middle (first ∷ before) track later tracks whole)) ∙ e in let no : ⊥ = cc in no);
          read = λ other among. (all_took other.slot).rest;
          end = λ e. absurd (let no : ⊥ = cc in no);
        });
        within = input-same track.slot elsewhere (subst (λ (slot : Slot). AreApart slot track.slot) input apart.0);
      }

  goes-on-by : (kind : TrackKind) → (g : GoesOn (map kind_of more) kind mid new) → KindParts more g.before kind g.later → Ends (BadVideo (record { slot = kind.slot; rule = Extra; frame = number }))
  goes-on-by kind g p =
      subst (λ (k : TrackKind). Ends (BadVideo (record { slot = k.slot; rule = Extra; frame = number }))) p.is
      (one-goes-on p.first p.track p.rest g.byte p.parts
      (all-from (λ (other : Track). IsAtEnd (mid other.slot).left) p.first (λ other among. g.ended (kind_of other) (subst (λ (ks : List TrackKind). Contains ks (kind_of other)) (sym p.before_is) (kind-among p.first other among))))
      (subst (λ (k : TrackKind). TookAll (mid k.slot) (g.byte ∷ []) (new k.slot)) (sym p.is) g.took)
      (subst (λ (k : TrackKind). OnlyAt k.slot mid new) (sym p.is) g.elsewhere))

  -- a read of a slot failed
  one-unread : (track : Track) (bytes : List ℕ) → Contains more track → TookFailed (mid track.slot) bytes (new track.slot) → OnlyAt track.slot mid new → Ends (ReadFailed track.slot)
  one-unread track bytes among failed elsewhere = record {
    end = by_fault track (record {
      among = (suc among.0, omega (arith, among.1), among.2);
      fault = read-fault old mid new track.slot elsewhere nothing bytes none-taken failed;
      others = λ other in-them. fault-others old mid new track.slot elsewhere nothing none-taken other.slot;
    });
    within = input-same track.slot elsewhere (input-apart track among);
  }

  unread-by : (kind : TrackKind) → IsUnreadAt (map kind_of more) kind mid new → Ends (ReadFailed kind.slot)
  unread-by kind h =
      let at = track-among more kind h.among in
      subst (λ (k : TrackKind). Ends (ReadFailed k.slot)) at.2
      (one-unread at.0 h.failed.taken at.1
      (subst (λ (k : TrackKind). TookFailed (mid k.slot) h.failed.taken (new k.slot)) (sym at.2) h.failed.failed)
      (subst (λ (k : TrackKind). OnlyAt k.slot mid new) (sym at.2) h.elsewhere))

  -- memory ran out
  memory-by : (kind : TrackKind) → LacksMemoryAt (map kind_of more) kind mid new → Ends Memory
  memory-by kind h =
      let at = track-among more kind h.among in
      record {
        end = by_memory (λ other in-them. only-left old mid new kind.slot h.elsewhere nothing h.taken none-taken h.took other.slot);
        within = input-same kind.slot h.elsewhere (subst (λ (k : TrackKind). AreApart Input k.slot) at.2 (input-apart at.0 at.1));
      }

  by-further : (exit : Exit) → FurtherEnd (map kind_of more) number mid new exit → Ends exit
  by-further exit (have_ended h) = all-ended h
  by-further exit (goes_on kind g) = goes-on-by kind g (kind-parts more g.before kind g.later g.parts)
  by-further exit (is_unread kind h) = unread-by kind h
  by-further exit (lacks_memory kind h) = memory-by kind h

  -- the answer, where Input has ended
  pub input-ends : (kinds : List TrackKind) (exit : Exit) → kinds ≡ map kind_of more → FurtherEnd kinds number mid new exit → Ends exit
  input-ends kinds exit e h = by-further exit (subst (λ (ks : List TrackKind). FurtherEnd ks number mid new exit) e h)
