-- Pages may get TOWRITE where they are DIRTY.
use Rattle.std.proofs.Common.{◌≡◌, ℕ, ◌<◌, true, false, refl, ap, sym, ◌∙◌, Option, Some, None, is_some}
use Rattle.machine.specs.State.{Page, page_count}
use Rattle.runs.proofs.views.View.{View, Flight, Good, PageIs, RequestIs, Goes, no_gone, quietly_evolves, dirty}
use Rattle.runs.proofs.views.View.{writeback, towrite, held, good_after, still_flying}

module _ (v : View) (ok : Good v) (page : ℕ → ℕ → Option Page)
    (same_some : (g q : ℕ) → is_some (page g q) ≡ is_some (v.page g q))
    (same_bytes : (g q : ℕ) (x : Page) → page g q ≡ Some x → (y : Page) × (v.page g q ≡ Some y) × (x.bytes ≡ y.bytes))
    (same_dirty : (g q : ℕ) → dirty (page g q) ≡ dirty (v.page g q))
    (same_writeback : (g q : ℕ) → writeback (page g q) ≡ writeback (v.page g q))
    (is_towrite : (g q : ℕ) → towrite (page g q) ≡ true → dirty (v.page g q) ≡ true) where
  abbrev pub after : View
  after = record v { page = page }

  pages : (g q : ℕ) → PageIs (after.content g q) (held after g q) (after.spot g q) (after.page g q)
  pages g q = let old = ok.pages g q in let d = same_dirty g q in let w = same_writeback g q in record {
    bytes = λ x e. let y = same_bytes g q x e in y.2 ∙ old.bytes y.0 y.1;
    towrite = λ e. d ∙ is_towrite g q e;
    dirty_block = λ e. old.dirty_block (sym d ∙ e);
    writeback_block = λ e. old.writeback_block (sym w ∙ e);
    clean = λ a b. old.clean (sym d ∙ a) (sym w ∙ b);
    clean_block = λ a b. old.clean_block (sym d ∙ a) (sym w ∙ b);
  }

  page_in : (g q : ℕ) → is_some (after.page g q) ≡ true → q < page_count v.page_size (v.size g)
  page_in g q e = ok.page_in g q (sym (same_some g q) ∙ e)

  none : (o : Option Page) → is_some o ≡ false → o ≡ None
  none None e = refl
  none (Some x) e = absurd cc

  requests : (u : ℕ) (s : Flight) → after.request u ≡ Some s → RequestIs after u s
  requests u s e = let old = ok.requests u s e in record {
    serial = old.serial;
    block = old.block;
    bytes = old.bytes;
    fill = λ d j. let h = old.fill d j in
        record {
          mapped = h.mapped;
          valid = h.valid;
          absent = none _ (same_some s.file s.page ∙ ap is_some h.absent);
          noted = h.noted;
        };
    flush = λ d j. let h = old.flush d j in
        record {
          mapped = h.mapped;
          writeback = same_writeback s.file s.page ∙ h.writeback;
          clean = λ c. h.clean (sym (same_dirty s.file s.page) ∙ c);
          noted = h.noted;
        };
    dead = old.dead;
  }

  pub retag : ((g q : ℕ) → towrite (v.page g q) ≡ true → towrite (page g q) ≡ true) → Goes no_gone v after
  retag more = (
    good_after v ok _ _ _ _ _ pages page_in requests ok.requests_apart
        (λ g q e. still_flying v after g q (ok.flushes g q (sym (same_writeback g q) ∙ e)) refl) ok.outcomes,
    quietly_evolves no_gone v after (λ g q _ b h. h) (λ u r e k d. e) (λ u r e k d _. e) (λ g q _ e. more g q e)
        (λ g. refl) refl,
  )
