-- Closed states, by which the definitions are checked against worked examples: pages of 16 bytes, 48 frames, a dirty
-- limit of 16, 64 blocks, and one file with handle 0 open on it.
use Rattle.std.proofs.Common.{◌≡◌, ℕ, T, List, [], ◌∷◌, length, ap, subst, ◌∙◌, Some, None, true, false, nat_cmp}
use Rattle.std.specs.declared.cmp.Ordering.{Ordering}
use Rattle.std.specs.FinMap as map
use Rattle.std.specs.FinMap.{from_sorted, entries-from_sorted, get-from_sorted, len-entries, is_sorted, find}
use Rattle.machine.specs.declared.event.Event.{Event}
use Rattle.machine.specs.declared.event.Reply.{Reply}
use Rattle.pc_types.specs.declared.ids.BlockNo.{BlockNo}
use Rattle.pc_types.specs.declared.ids.HandleId.{HandleId}
use Rattle.pc_types.specs.declared.ids.PageIndex.{PageIndex}
use Rattle.pc_types.specs.declared.ids.FileId.{FileId}
use Rattle.pc_types.specs.declared.ids.SyncId.{SyncId}
use Rattle.pc_types.specs.declared.ids.Serial.{Serial}
use Rattle.pc_types.specs.Tags.{TagSet}
use Rattle.machine.specs.State.{State, Page, Request, Sync}
use Rattle.pc_types.specs.Spots.{Spot, place_cmp}
use Rattle.machine.specs.Tests.{tests}
use Rattle.machine.specs.Step.{Step, AnswersOr, MayReply}

-- what a state has beside its sizes and its handle
pub record Parts : Type 0 where
  pub size : ℕ
  pub failures : ℕ
  pub last_code : ℕ
  pub blocks : ℕ
  pub pages : List (ℕ × Page)
  pub spots : List ((ℕ × ℕ) × Spot)
  pub requests : List (ℕ × Request)
  pub syncs : List (ℕ × Sync)
  pub next : ℕ

-- after `create` and `open 0`
abbrev pub opened : Parts
opened = record {
  size = 0;
  failures = 0;
  last_code = 0;
  blocks = 64;
  pages = [];
  spots = [];
  requests = [];
  syncs = [];
  next = 0;
}

abbrev pub state_of : Parts → State
state_of p = record {
  sizes = record { page = 16; frames = 48; dirty_limit = 16; blocks = p.blocks };
  name = 0;
  files = record { size = p.size; failures = p.failures; last_code = p.last_code; pages = from_sorted p.pages } ∷ [];
  handles = from_sorted ((0, 0) ∷ []);
  spots = from_sorted p.spots;
  next = p.next;
  requests = from_sorted p.requests;
  syncs = from_sorted p.syncs;
}

abbrev pub handle : ℕ → HandleId
handle n = record { 0 = n }

abbrev pub page : ℕ → PageIndex
page n = record { 0 = n }

abbrev pub file : ℕ → FileId
file n = record { 0 = n }

abbrev pub sync : ℕ → SyncId
sync n = record { 0 = n }

abbrev pub serial : ℕ → Serial
serial n = record { 0 = n }

abbrev pub block : ℕ → BlockNo
block n = record { 0 = n }

-- tags, by their letters
abbrev pub none : TagSet
none = record { dirty = false; writeback = false; towrite = false }

abbrev pub D : TagSet
D = record { dirty = true; writeback = false; towrite = false }

abbrev pub W : TagSet
W = record { dirty = false; writeback = true; towrite = false }

abbrev pub DW : TagSet
DW = record { dirty = true; writeback = true; towrite = false }

abbrev pub DT : TagSet
DT = record { dirty = true; writeback = false; towrite = true }

abbrev pub DWT : TagSet
DWT = record { dirty = true; writeback = true; towrite = true }

-- how many entries a map of this list has
pub len-from_sorted : {K X : Type 0} (R : K → K → Ordering) (es : List (K × X)) → T (is_sorted R es)
    → map.len (from_sorted {R = R} es) ≡ length es
len-from_sorted R es h = len-entries (from_sorted {R = R} es) ∙ ap length (entries-from_sorted R es h)

-- where no test holds the event happens
pub happens : (old new : State) (e : Event) (r : Reply) → tests old e ≡ None → Step old e r new → MayReply old e r
happens old new e r none step = (let h = subst (λ o. AnswersOr o old e r new) none step in h.0)

-- where a test holds its reply is the only one
pub only : (old new : State) (e : Event) (r first : Reply) → tests old e ≡ Some first → Step old e r new → r ≡ first
only old new e r first is step = (let h = subst (λ o. AnswersOr o old e r new) is step in h.0)

-- ---- what is looked up in such a state

module _ (p : Parts) where
  pub handle_0 : map.get (state_of p).handles 0 ≡ Some 0
  handle_0 = let es : List (ℕ × ℕ) = (0, 0) ∷ [] in get-from_sorted nat_cmp es 0 tt

  pub handle_get : (h : ℕ) → map.get (state_of p).handles h ≡ find nat_cmp h (let es : List (ℕ × ℕ) = (0, 0) ∷ [] in es)
  handle_get h = let es : List (ℕ × ℕ) = (0, 0) ∷ [] in get-from_sorted nat_cmp es h tt

  pub handle_len : map.len (state_of p).handles ≡ 1
  handle_len = let es : List (ℕ × ℕ) = (0, 0) ∷ [] in len-from_sorted nat_cmp es tt

  pub page_get : T (is_sorted nat_cmp p.pages) → (q : ℕ)
      → map.get (from_sorted {R = nat_cmp} p.pages) q ≡ find nat_cmp q p.pages
  page_get h q = get-from_sorted nat_cmp p.pages q h

  pub page_entries : T (is_sorted nat_cmp p.pages) → map.entries (from_sorted {R = nat_cmp} p.pages) ≡ p.pages
  page_entries h = entries-from_sorted nat_cmp p.pages h

  pub page_len : T (is_sorted nat_cmp p.pages) → map.len (from_sorted {R = nat_cmp} p.pages) ≡ length p.pages
  page_len h = len-from_sorted nat_cmp p.pages h

  pub spot_get : T (is_sorted place_cmp p.spots) → (q : ℕ × ℕ) → map.get (from_sorted {R = place_cmp} p.spots) q
      ≡ find place_cmp q p.spots
  spot_get h q = get-from_sorted place_cmp p.spots q h

  pub spot_entries : T (is_sorted place_cmp p.spots) → map.entries (from_sorted {R = place_cmp} p.spots) ≡ p.spots
  spot_entries h = entries-from_sorted place_cmp p.spots h

  pub request_get : T (is_sorted nat_cmp p.requests) → (t : ℕ) → map.get (from_sorted {R = nat_cmp} p.requests) t
      ≡ find nat_cmp t p.requests
  request_get h t = get-from_sorted nat_cmp p.requests t h

  pub request_entries : T (is_sorted nat_cmp p.requests) → map.entries (from_sorted {R = nat_cmp} p.requests)
      ≡ p.requests
  request_entries h = entries-from_sorted nat_cmp p.requests h

  pub request_len : T (is_sorted nat_cmp p.requests) → map.len (from_sorted {R = nat_cmp} p.requests)
      ≡ length p.requests
  request_len h = len-from_sorted nat_cmp p.requests h

  pub sync_get : T (is_sorted nat_cmp p.syncs) → (n : ℕ)
      → map.get (from_sorted {R = nat_cmp} p.syncs) n ≡ find nat_cmp n p.syncs
  sync_get h n = get-from_sorted nat_cmp p.syncs n h

  pub sync_entries : T (is_sorted nat_cmp p.syncs) → map.entries (from_sorted {R = nat_cmp} p.syncs) ≡ p.syncs
  sync_entries h = entries-from_sorted nat_cmp p.syncs h

  pub sync_len : T (is_sorted nat_cmp p.syncs) → map.len (from_sorted {R = nat_cmp} p.syncs) ≡ length p.syncs
  sync_len h = len-from_sorted nat_cmp p.syncs h
