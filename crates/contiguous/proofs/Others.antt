-- The events that write no bytes and don't truncate the file keep its extent and its size.
use Rattle.std.proofs.Common.{◌≡◌, ℕ, ◌+◌, ◌<◌, Bool, true, false, cond, not, eqb, eqb-true, List}
use Rattle.std.proofs.Common.{length, refl, ap, sym, ◌∙◌, arith, inl, inr, ◌&&◌, ◌⊎◌, Option}
use Rattle.std.proofs.Common.{Some, None, is_some, option_map}
use Rattle.std.specs.Prelude.{nat_lt, nat_le, unwrap_or}
use Rattle.std.specs.FinMap as finmap
use Rattle.std.proofs.lemmas.Bool.{false≢true}
use Rattle.std.proofs.lemmas.Bool.Decides.{nat_tests}
use Rattle.pc_types.specs.Spots.{Spot}
use Rattle.pc_types.specs.declared.ids.HandleId.{HandleId}
use Rattle.pc_types.specs.declared.kind.Kind.{Kind}
use Rattle.machine.specs.declared.event.Event.{Event}
use Rattle.machine.specs.declared.event.Event.TheVariants as event
use Rattle.machine.specs.declared.event.Reply.{Reply}
use Rattle.machine.specs.declared.event.Reply.TheVariants as reply
use Rattle.machine.specs.State.{State, File, Page, Request, Sync, block_at, file_at, handle_file, in_range, is_written}
use Rattle.machine.specs.State.{no_file, page_at, page_count, spot_at, tags_of}
use Rattle.machine.specs.Changes.{is_left, requested, shrunk}
use Rattle.machine.specs.Sound.{Sound}
use Rattle.machine.specs.Step.{Step}
use Rattle.machine.proofs.sound.Lookups.{block_at-shrunk, block_valid, get_or-default}
use Rattle.machine.proofs.steps.Answered.{IsWrite}
use Rattle.machine.proofs.steps.Cases.{Cases, by_cases}
use Rattle.machine.proofs.steps.Choices.{and_true, some_of}
use Rattle.maps.proofs.Maps.{get_inserted, get_left}
use Rattle.contiguous.specs.Contiguous.{IsHeld, IsOneExtent}
use Rattle.contiguous.specs.Promises.{KeepsTheExtent, OthersKeepTheExtent, OthersStayContiguous, changes_blocks}
use Rattle.contiguous.proofs.Cuts.{held_before, still_contiguous}
use Rattle.contiguous.proofs.Files.{size_of_other, same_size}
use Rattle.contiguous.proofs.FreeBlocks.{below}

-- a write of bytes is none of these events
wrote_bytes : (s : State) (f : ℕ) (e : Event) (h : HandleId) (o : ℕ) (b : List ℕ) (end : ℕ) → IsWrite s e h o b
    → 0 < length b → changes_blocks s f e (reply.Wrote (length b) end) ≡ true
wrote_bytes s f e h o b end w some = elim w [
  | inl a ↦ ap (λ x. changes_blocks s f x (reply.Wrote (length b) end)) a ∙ bytes
  | inr a ↦ ap (λ x. changes_blocks s f x (reply.Wrote (length b) end)) a.0 ∙ bytes
]
  where
    bytes : not (eqb (length b) 0) ≡ true
    bytes = grind (arith, nat_tests)

module _ (s : State) (ok : Sound s) (f n : ℕ) (is : IsOneExtent s f n) where
  -- a record, so that each case determines its state
  record After (e : Event) (r : Reply) (new : State) : Type 0 where
    pub keeps : changes_blocks s f e r ≡ false → KeepsTheExtent s new f n
    pub size : changes_blocks s f e r ≡ false → (file_at new f).size ≡ (file_at s f).size

  -- blocks stay, and what is held
  stays : (e : Event) (r : Reply) (new : State) → new.spots ≡ s.spots → new.requests ≡ s.requests
      → (file_at new f).size ≡ (file_at s f).size → After e r new
  stays e r new spots requests size = record {
    keeps = λ _. record {
      extent = λ g q. ap (λ m. option_map (λ (x : Spot). x.block) (finmap.get m (g, q))) spots ∙ is g q;
      held = λ b h. inl (h.0, h.1, sym (ap (λ m. finmap.get m h.0) requests) ∙ h.2, h.3);
    };
    size = λ _. size;
  }

  -- a request begins, of a page that has a block
  begins_request : (kind : Kind) (g p : ℕ) (new : State) → is_some (block_at s g p) ≡ true → (e : Event) (r : Reply)
      → new.spots ≡ s.spots → new.requests ≡ (requested s kind g p).requests
      → (file_at new f).size ≡ (file_at s f).size → After e r new
  begins_request kind g p new has e r spots requests size = record {
    keeps = λ _. record {
      extent = λ i q. ap (λ m. option_map (λ (x : Spot). x.block) (finmap.get m (i, q))) spots ∙ is i q;
      held = λ b h. held b h.0 h.1 (sym (ap (λ m. finmap.get m h.0) requests) ∙ h.2) h.3;
    };
    size = λ _. size;
  }
    where
      x : Request
      x = record { kind = kind; file = g; page = p; block = unwrap_or (block_at s g p) 0; dropped = false }

      held : (b t : ℕ) (y : Request) → finmap.get (finmap.insert s.requests s.next x) t ≡ Some y → y.block ≡ b
          → IsHeld s b ⊎ (b < n)
      held b t y at of = elim (get_inserted s.requests s.next x t) [
        | inl k ↦ inr (let same : Some x ≡ Some y = sym k.1 ∙ at in let one : x ≡ y = cc in
            let o = some_of (block_at s g p) has in
            let it : o.0 ≡ b = sym (ap (λ z. unwrap_or z 0) o.1) ∙ ap (λ (z : Request). z.block) one ∙ of in
            below s f n is g p b (o.1 ∙ ap Some it))
        | inr k ↦ inl (t, y, sym k.1 ∙ at, of)
      ]

  -- a request ends
  ends_request : (t : ℕ) (new : State) → (e : Event) (r : Reply)
      → ((g q : ℕ) → block_at new g q ≡ block_at s g q) → new.requests ≡ finmap.remove s.requests t
      → (file_at new f).size ≡ (file_at s f).size → After e r new
  ends_request t new e r spots requests size = record {
    keeps = λ _. record {
      extent = λ g q. spots g q ∙ is g q;
      held = λ b h. inl (
        h.0,
        h.1,
        (get_left s.requests t h.0 h.1 (sym (ap (λ m. finmap.get m h.0) requests) ∙ h.2)).1,
        h.3,
      );
    };
    size = λ _. size;
  }

  dirty_has : (g p : ℕ) (page : Page) → page_at s g p ≡ Some page → page.tags.dirty ≡ true
      → is_some (block_at s g p) ≡ true
  dirty_has g p page at dirty = ok.dirty_block g p (ap (λ o. (tags_of o).dirty) at ∙ dirty)

  -- the page that a sync starts is DIRTY
  left_dirty : (y : Sync) (g p : ℕ) (page : Page) → page_at s g p ≡ Some page → is_left y (p, page) ≡ true
      → is_some (block_at s g p) ≡ true
  left_dirty y g p page at left = ok.dirty_block g p (ok.towrite_dirty g p
      (ap (λ o. (tags_of o).towrite) at ∙ (and_true page.tags.towrite (in_range y p)
      (and_true (page.tags.towrite && in_range y p) _ left).0).0))

  written_has : (g p : ℕ) → is_written s g p ≡ true → is_some (block_at s g p) ≡ true
  written_has g p e = go (spot_at s g p) e
    where
      go : (o : Option Spot) → nat_lt 0 (unwrap_or (option_map (λ (x : Spot). x.valid) o) 0) ≡ true
          → is_some (option_map (λ (x : Spot). x.block) o) ≡ true
      go None e = absurd cc
      go (Some x) e = refl

  -- another file is truncated
  other_cut : (g z : ℕ) (e : Event) (r : Reply) → (changes_blocks s f e r ≡ false → eqb g f ≡ false)
      → After e r (shrunk s g z)
  other_cut g z e r other = record {
    keeps = λ k. record {
      extent = λ i q. block_at-shrunk s g z i q ∙ none_lost (other k) i q (eqb i g) refl ∙ is i q;
      held = λ b h. inl (held_before s g z b h);
    };
    size = λ k. size_of_other s g f _ (other k);
  }
    where
      none_lost : eqb g f ≡ false → (i q : ℕ) (b : Bool) → eqb i g ≡ b
          → cond (b && nat_le (page_count s.sizes.page z) q) None (block_at s i q) ≡ block_at s i q
      none_lost k i q true e = go (nat_le (page_count s.sizes.page z) q)
        where
          none : block_at s i q ≡ None
          none = is i q ∙ ap (λ b. cond (b && nat_lt q n) (Some q) None)
              (ap (λ j. eqb j f) (eqb-true i g e) ∙ k)

          go : (b : Bool) → cond b None (block_at s i q) ≡ block_at s i q
          go true = sym none
          go false = refl
      none_lost k i q false e = refl

  cases : Cases s After
  cases = record {
    same = λ e r step quiet. stays e r s refl refl refl;
    writes_none = λ e h o w step. stays e _ s refl refl refl;
    creates = λ g room at. stays _ _ _ refl refl (ap (λ (x : File). x.size) (get_or-default s.files no_file f));
    opens = λ g h in_files room low. stays _ _ _ refl refl refl;
    closes = λ h opened free. stays _ _ _ refl refl refl;
    writes = λ e h o b w may. record {
      keeps = λ k. absurd (false≢true (sym k ∙ wrote_bytes s f e h o b (o + length b) w may.some));
      size = λ k. absurd (false≢true (sym k ∙ wrote_bytes s f e h o b (o + length b) w may.some));
    };
    shrinks = λ h z may less. other_cut (handle_file s h.0) z (event.Truncate h z) reply.Done (λ k. k);
    grows = λ h z may more. record {
      keeps = λ k. record { extent = is; held = λ b held. inl held };
      size = λ k. size_of_other s (handle_file s h.0) f _ k;
    };
    makes_zeros = λ h p may unwritten. stays _ _ _ refl refl (same_size s (handle_file s h.0) f _ refl);
    evicts = λ g p page at idle. stays _ _ _ refl refl (same_size s g.0 f _ refl);
    fills = λ h p t may written full given. begins_request _ (handle_file s h.0) p.0 _
        (written_has (handle_file s h.0) p.0 written) _ _ refl refl refl;
    flushes = λ g p page t may given. begins_request _ g.0 p _ (dirty_has g.0 p page may.is may.dirty) _ _ refl refl
        (same_size s g.0 f _ refl);
    drops = λ kind end x may dropped. ends_request end.serial.0 _ _ _ (λ g q. refl) refl refl;
    fill_fails = λ end x c may live out. ends_request end.serial.0 _ _ _ (λ g q. refl) refl refl;
    fill_ends = λ end x b may live out. ends_request end.serial.0 _ _ _ (λ g q. refl) refl (same_size s x.file f _ refl);
    flush_fails = λ end x c may live out. ends_request end.serial.0 _ _ _ (λ g q. refl) refl
        (same_size s x.file f _ refl);
    flush_ends = λ end x may live out. ends_request end.serial.0 _ _ _
        (block_valid s.spots x.file x.page x.block s.sizes.page (ok.mapped end.serial.0 x may.is live)) refl
        (same_size s x.file f _ refl);
    begins = λ h first last m may low. stays _ _ _ refl refl (same_size s (handle_file s h.0) f _ refl);
    starts = λ m y p page t at may given. begins_request _ (handle_file s y.handle) p _
        (left_dirty y (handle_file s y.handle) p page may.is may.left) _ _ refl refl
        (same_size s (handle_file s y.handle) f _ refl);
    waits = λ m y e p at pick first page. stays _ _ _ refl refl refl;
    over = λ m y r at pick first verdict. stays _ r _ refl refl refl;
    sync_drops = λ m y at. stays _ _ _ refl refl refl;
  }

  after : (e : Event) (r : Reply) (new : State) → Step s e r new → After e r new
  after e r new step = by_cases s After cases e r new step

  pub others_keep : (e : Event) (r : Reply) (new : State) → Step s e r new → changes_blocks s f e r ≡ false
      → KeepsTheExtent s new f n
  others_keep e r new step k = (after e r new step).keeps k

  pub others_size : (e : Event) (r : Reply) (new : State) → Step s e r new → changes_blocks s f e r ≡ false
      → (file_at new f).size ≡ (file_at s f).size
  others_size e r new step k = (after e r new step).size k

pub others_keep_the_extent : OthersKeepTheExtent
others_keep_the_extent old new f n e r step k ok is = others_keep old ok f n is e r new step k

pub others_stay_contiguous : OthersStayContiguous
others_stay_contiguous old new f n e r step k ok is =
    still_contiguous old new f n (others_keep old ok f n is.extent e r new step k) is.held
