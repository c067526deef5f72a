-- What follows of a state that is sound: who has no block of a page.
use Rattle.std.proofs.Common.{◌≡◌, ◌≢◌, ℕ, true, false, ap, sym, ◌∙◌}
use Rattle.std.specs.Prelude.{Some, is_some}
use Rattle.std.specs.FinMap as finmap
use Rattle.machine.specs.State.{State, Request, is_cached, is_filling, page_at, tags_at, block_at}
use Rattle.machine.specs.Sound.{Sound}
use Rattle.machine.proofs.sound.Changes.{lookups, unheld_block, writeback}
use Rattle.machine.proofs.sound.Pages.{no_fill}
use Rattle.machine.proofs.steps.Choices.{none_of}

module _ (s : State) (ok : Sound s) (f p b : ℕ) (has : block_at s f p ≡ Some b) where
  -- no request in flight has the block of a cached page that is not WRITEBACK
  pub unheld : is_cached s f p ≡ true → (tags_at s f p).writeback ≡ false → (t : ℕ) (r : Request)
      → finmap.get s.requests t ≡ Some r → r.block ≢ b
  unheld cached idle =
      unheld_block (lookups s) ok f p b has (λ t r e of k. let none = ok.fill t r e of.live k in
      let here : page_at s r.file r.page ≡ page_at s f p = (λ i. page_at s (of.file i) (of.page i)) in
      let absent : is_cached s f p ≡ false = ap is_some (sym here ∙ none) in cc) idle

  -- nor that of an absent page
  pub unheld_absent : is_cached s f p ≡ false → is_filling s f p ≡ false → (t : ℕ) (r : Request)
      → finmap.get s.requests t ≡ Some r → r.block ≢ b
  unheld_absent absent idle = unheld_block (lookups s) ok f p b has (no_fill s ok f p idle)
      (ap writeback (none_of (page_at s f p) absent))
