-- The file that the end of a request names, where it failed: a flush in flight writes to it.
use Rattle.std.proofs.Common.{◌≡◌, ◌<◌, ℕ, List, cond, ap, sym, ◌∙◌}
use Rattle.std.specs.Prelude.{None, Ok, Some}
use Rattle.cachecore.specs.Flushing.{flush_of, flushed_file}
use Rattle.cachecore.specs.Replies.{NamesFile}
use Rattle.cachecore.specs.declared.answers.Ended.TheVariants as ended
use Rattle.machine.specs.State.{State}
use Rattle.pc_types.specs.Kinds.{is_flush}
use Rattle.pc_types.specs.declared.ids.FileId.{FileId}
use Rattle.pc_types.specs.declared.kind.Kind.TheVariants.{Fill, Flush}
use Rattle.pc_types.specs.declared.limits.TheConstants.{MAX_FILES}

module _ (s : State) (t : ℕ) (file : FileId) (code : ℕ) (b : List ℕ) where
  pub flush_named : NamesFile s Flush t (Ok (ended.Failed file code b)) → flush_of s t ≡ Some file.0
  flush_named h =
      ap flushed_file h.1 ∙ ap (λ k. cond (is_flush k) (Some h.0.file) None) h.2 ∙ ap Some (sym h.3)

  -- a fill is no flush
  pub fill_named : NamesFile s Fill t (Ok (ended.Failed file code b)) → flush_of s t ≡ None
  fill_named h = ap flushed_file h.1 ∙ ap (λ k. cond (is_flush k) (Some h.0.file) None) h.2
