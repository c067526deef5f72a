-- What each call does to the lists of the table leaves every frame that is taken in one list, once.
use Rattle.std.proofs.Common.{None, ◌≡◌, ℕ, ◌<◌, ◌≤◌, Bool, true, false, not, cond, ◌&&◌, ◌||◌, List, ◌∷◌, length, map, slice_set, refl, sym, ap, ◌∙◌, arith, length-set}
use Rattle.std.proofs.Common.{is_none, replicate}
use Rattle.std.proofs.lemmas.List.{length-replicate}
use Rattle.pc_types.specs.declared.limits.TheConstants.{MAX_FRAMES}
use Rattle.frames.specs.Lists.{Lists, has, without}
use Rattle.frames.specs.Table.{Table, IsSound, accessed, given, is_referenced, is_taken, new_table, taken}
use Rattle.frames.specs.Tied.{IsTied}
use Rattle.frames.proofs.TiedLemmas.{Owner, tied_activated, tied_given, tied_new, tied_taken}

-- by the table's parts, however many frames its lists are counted for
pub sound_by : (t : Table) (count : ℕ) (free : List Bool)
    → IsTied (record { count = count; active = t.active; inactive = t.inactive }) free t.referenced t.owners (record { size = t.size; rows = t.bytes })
    → length t.aside ≡ length t.owners → IsSound t
sound_by t count free tied asides = record {
  active_once = tied.active_once;
  inactive_once = tied.inactive_once;
  apart = tied.apart;
  listed = tied.listed;
  flags = tied.flags;
  asides = asides;
  rows = tied.rows;
}

pub sound_new : (size count : ℕ) → count ≤ MAX_FRAMES → IsSound (new_table size count)
sound_new size count few =
    sound_by (new_table size count) count (replicate count true)
    (tied_new count size _ _ _ _ _ refl refl refl refl refl (omega (arith, few)))
    (length-replicate count false ∙ sym (length-replicate count None))

module _ (t : Table) (s : IsSound t) where
  -- other flags of the frames that are set aside, and other bytes
  pub sound_aside : (flags : List Bool) → length flags ≡ length t.owners → IsSound (record t { aside = flags })
  sound_aside flags long = record {
    active_once = s.active_once;
    inactive_once = s.inactive_once;
    apart = s.apart;
    listed = s.listed;
    flags = s.flags;
    asides = long;
    rows = s.rows;
  }

  pub sound_laid : (rows : List (List ℕ)) → length rows ≡ length t.owners → IsSound (record t { bytes = rows })
  sound_laid rows long = record {
    active_once = s.active_once;
    inactive_once = s.inactive_once;
    apart = s.apart;
    listed = s.listed;
    flags = s.flags;
    asides = s.asides;
    rows = long;
  }

  module _ (few : length t.owners ≤ MAX_FRAMES) where
    abbrev lists : Lists
    lists = record { count = length t.owners; active = t.active; inactive = t.inactive }

    tied : IsTied lists (map is_none t.owners) t.referenced t.owners (record { size = t.size; rows = t.bytes })
    tied = record {
      count = refl;
      flags = s.flags;
      rows = s.rows;
      bound = omega (arith, few);
      unowned = refl;
      listed = s.listed;
      active_once = s.active_once;
      inactive_once = s.inactive_once;
      apart = s.apart;
    }

    pub sound_taken : (f : ℕ) (owner : Owner) → f < length t.owners → is_taken t f ≡ false → IsSound (taken t f owner)
    sound_taken f owner within free =
        sound_by (taken t f owner) (length t.owners) _
        (tied_taken lists _ t.referenced t.owners _ tied f owner _ _ within free refl refl)
        (length-set t.aside f false ∙ s.asides ∙ sym (length-set t.owners f _))

    pub sound_given : (f : ℕ) → f < length t.owners → IsSound (given t f)
    sound_given f within =
        sound_by (given t f) (length t.owners) _ (tied_given lists _ t.referenced t.owners _ tied f _ _ within refl refl)
        (s.asides ∙ sym (length-set t.owners f None))

    flagged : (f : ℕ) → IsSound (record t { referenced = slice_set t.referenced f true })
    flagged f = record {
      active_once = s.active_once;
      inactive_once = s.inactive_once;
      apart = s.apart;
      listed = s.listed;
      flags = length-set t.referenced f true ∙ s.flags;
      asides = s.asides;
      rows = s.rows;
    }

    moved : (f : ℕ) → is_taken t f ≡ true → has f t.active ≡ false
        → IsSound (record t { active = f ∷ t.active; inactive = without f t.inactive; referenced = slice_set t.referenced f false })
    moved f there absent =
        let u : Table = record t { active = f ∷ t.active; inactive = without f t.inactive; referenced = slice_set t.referenced f false } in
        let waits : has f t.inactive ≡ true = sym (ap (λ b. b || has f t.inactive) absent) ∙ sym (s.listed f) ∙ there in
        sound_by u (length t.owners) (map is_none t.owners)
        (tied_activated lists _ t.referenced t.owners _ tied f false _ waits absent refl) s.asides

    pub sound_accessed : (f : ℕ) → is_taken t f ≡ true → IsSound (accessed t f)
    sound_accessed f there = by (has f t.active) (is_referenced t f) refl
      where
        by : (active referenced : Bool) → has f t.active ≡ active
            → IsSound (cond (not active && referenced)
            (record t { active = f ∷ t.active; inactive = without f t.inactive; referenced = slice_set t.referenced f false })
            (record t { referenced = slice_set t.referenced f true }))
        by true referenced is = flagged f
        by false true is = moved f there is
        by false false is = flagged f
