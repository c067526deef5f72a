use Rattle.std.proofs.Common.{arith, ap, sym, refl, ℕ, ◌∙◌, ◌≡◌, ◌+◌, ◌-◌, ◌*◌, ◌<◌, ◌≤◌, [], length, false, true}
use Rattle.std.proofs.lemmas.Bool.{or_left}
use Rattle.std.proofs.lemmas.List.{take_rest}
use Rattle.std.specs.Prelude.{Bool, List, is_some, slice_index_or, Some, None}
use Rattle.std.specs.FinMap as map
use Rattle.pc_types.proofs.FileLaws.{length-cut}
use Rattle.pc_types.specs.Tags.{no_tags}
use Rattle.machine.specs.Changes.{written_page}
use Rattle.machine.specs.PageLists.{left}
use Rattle.machine.specs.State.{Page}
use Rattle.machine.proofs.changes.WriteLengths.{length-overlay}
use Rattle.pagestore.specs.Ranges.{AreFlags, HasAbsent, with_part}
use Rattle.pagestore.specs.Store.{Store, blank, is_awaited, stored_at, stored_page, the_page, with_lists, with_pages}
use Rattle.pagestore.proofs.Overlay.{touched_above, touched_below}
use Rattle.pagestore.proofs.PairLemmas.{on_ok, when_err, when_ok, written_part}
use Rattle.pagestore.proofs.Flags.{flag_first, flags_after}
use Rattle.pagestore.proofs.RangeLemmas.{ne_less, none_of, room_some, on_err_of, mid_cached, mid_here, mid_idle, mid_later, mid_room}
use Rattle.pagestore.proofs.RangeLemmas.{mid_size, mid_sized, rest_page, room_past, unmade, written_more, written_past}
use Rattle.pagestore.proofs.pages.Pages.+write.Goals as goal

abbrev none : Page
none = record { bytes = []; tags = no_tags }

-- ---- by the first flag

unset : (flags : List Bool) (s : Store) (f p end : ℕ) → AreFlags flags s.files f p end → p < end
    → slice_index_or flags 0 false ≡ false → false ≡ is_some (stored_page s f p)
unset flags s f p end told less off = sym (sym (flag_first flags s.files f p end told less) ∙ off)

-- ---- a page that is cached

pub write-requires : goal.write-requires
write-requires t c =
    let P = c.args.span.page_size in
    let f = c.args.span.file in
    let p = c.args.page in
    let end = c.args.span.end in
    let old = c.args.self.now in
    let less = ne_less p end c.requires.order c.if-page-span.false in
    let there = sym (flag_first c.args.cached.now old.files f p end c.requires.flags less) ∙ c.if-cached.true in
    let past = room_past P f c.args.span.offset c.args.bytes.now p end old less c.requires.here there in (
      omega (arith, less),
      (
        c.requires.here,
        (
          c.requires.size,
          (
            c.requires.positive,
            (
              c.requires.small,
              (
                c.requires.some,
                (
                  c.requires.bound,
                  (
                    omega (arith, c.requires.from),
                    (
                      omega (arith, less),
                      (
                        c.requires.to,
                        (
                          c.requires.below,
                          (
                            c.requires.sized,
                            (
                              record { each = λ q a b. c.requires.idle.each q (omega arith) b },
                              (
                                flags_after c.args.cached.now old.files f p end c.requires.flags _ old.files (take_rest c.args.cached.now 1) less (λ q h. refl),
                                omega (arith, past, c.requires.room),
                              ),
                            ),
                          ),
                        ),
                      ),
                    ),
                  ),
                ),
              ),
            ),
          ),
        ),
      ),
    )

pub returns-then-cached-clause-written : goal.returns-then-cached-clause-written
returns-then-cached-clause-written t c =
    let P = c.args.span.page_size in
    let f = c.args.span.file in
    let o = c.args.span.offset in
    let b = c.args.bytes.now in
    let p = c.args.page in
    let end = c.args.span.end in
    let old = c.args.self.now in
    let less = ne_less p end c.requires.order c.if-page-span.false in
    let above = touched_above P o p c.requires.positive c.requires.from in
    let below : p * P < o + length b =
    omega (
      arith,
      touched_below P (o + length b - 1) p c.requires.positive (omega (arith, less, c.requires.to)),
      c.requires.some,
    ) in
    let at = c.part-at.result.0 in
    let part = c.part-at.result.1.now in
    let mid = c.write.new.self in
    let there = sym (flag_first c.args.cached.now old.files f p end c.requires.flags less) ∙ c.if-cached.true in
    let h = c.in_ok-write.ensures.written in
    let page_is : with_part (the_page (stored_at mid f).pages p) at part
    ≡ written_page P o b p (map.get (stored_at old f).pages p) =
    ap (λ (page : Page). with_part page at part) (rest_page P f o b p end old less c.requires.here there mid h)
    ∙ written_part P o p at b part (map.get (stored_at old f).pages p) none c.part-at.ensures.at
    c.part-at.ensures.bytes there (c.requires.sized.each p there) above below c.requires.some c.requires.positive in
    written_past P f o b p end old less c.requires.here there mid h
    (with_part (the_page (stored_at mid f).pages p) at part) c.put.new.self page_is c.put.ensures

-- ---- a page that is absent

pub make_with-requires-clause-room : goal.make_with-requires-clause-room
make_with-requires-clause-room t c =
    let less = ne_less c.args.page c.args.span.end c.requires.order c.if-page-span.false in
    room_some c.args.self.now c.args.span.file c.args.page c.args.span.end less
    (none_of _ (unset c.args.cached.now c.args.self.now c.args.span.file c.args.page c.args.span.end c.requires.flags less c.if-cached.false))
    c.requires.room

pub write-rest-requires : goal.write-rest-requires
write-rest-requires t c =
    let P = c.args.span.page_size in
    let f = c.args.span.file in
    let o = c.args.span.offset in
    let b = c.args.bytes.now in
    let p = c.args.page in
    let end = c.args.span.end in
    let old = c.args.self.now in
    let less = ne_less p end c.requires.order c.if-page-span.false in
    let above = touched_above P o p c.requires.positive c.requires.from in
    let below : p * P < o + length b =
    omega (
      arith,
      touched_below P (o + length b - 1) p c.requires.positive (omega (arith, less, c.requires.to)),
      c.requires.some,
    ) in
    let at = c.part-at.result.0 in
    let part = c.part-at.result.1.now in
    let page = with_part (blank old.page) at part in
    let gone = none_of _ (unset c.args.cached.now old f p end c.requires.flags less c.if-cached.false) in
    let room = room_some old f p end less gone c.requires.room in
    let mid = c.make_with.new.self in
    let is = c.in_ok-make_with.ensures.ok in
    let page_is : page ≡ written_page P o b p None =
    ap (λ n. with_part (blank n) at part) (sym c.requires.size)
    ∙ written_part P o p at b part (Some (blank P)) none c.part-at.ensures.at c.part-at.ensures.bytes refl
    (length-cut [] P) above below c.requires.some c.requires.positive in
    let here = mid_here P f o b p end old less c.requires.here gone room page mid is in
    let long = ap (λ (page : Page). length page.bytes) page_is ∙ length-overlay P o p b _ (length-cut [] P) in (
      omega (arith, less),
      (
        here,
        (
          c.requires.size ∙ sym (mid_size P f o b p end old less c.requires.here gone room page mid is),
          (
            c.requires.positive,
            (
              c.requires.small,
              (
                c.requires.some,
                (
                  c.requires.bound,
                  (
                    omega (arith, c.requires.from),
                    (
                      omega (arith, less),
                      (
                        c.requires.to,
                        (
                          c.requires.below,
                          (
                            mid_sized P f o b p end old less c.requires.here gone room page mid is long c.requires.sized,
                            (
                              record {
                                each = λ q a b. mid_idle P f o c.args.bytes.now p end old less c.requires.here gone room page mid is q
                                    ∙ c.requires.idle.each q (omega arith) b;
                              },
                              (
                                flags_after c.args.cached.now old.files f p end c.requires.flags _ mid.files
                                    (take_rest c.args.cached.now 1) less
                                    (λ q h. ap is_some (mid_later P f o b p end old less c.requires.here gone room page mid is q h)),
                                mid_room P f o b p end old less c.requires.here gone room page mid is c.requires.room,
                              ),
                            ),
                          ),
                        ),
                      ),
                    ),
                  ),
                ),
              ),
            ),
          ),
        ),
      ),
    )

pub leave-requires-clause-there : goal.leave-requires-clause-there
leave-requires-clause-there t c =
    let P = c.args.span.page_size in
    let f = c.args.span.file in
    let o = c.args.span.offset in
    let b = c.args.bytes.now in
    let p = c.args.page in
    let end = c.args.span.end in
    let old = c.args.self.now in
    let less = ne_less p end c.requires.order c.if-page-span.false in
    let at = c.part-at.result.0 in
    let part = c.part-at.result.1.now in
    let page = with_part (blank old.page) at part in
    let gone = none_of _ (unset c.args.cached.now old f p end c.requires.flags less c.if-cached.false) in
    let room = room_some old f p end less gone c.requires.room in
    let mid = c.make_with.new.self in
    let is = c.in_ok-make_with.ensures.ok in
    let same : c.write-rest.new.self ≡ mid = when_err c.write-rest.result _ c.if-is_err.ensures.value
    c.write-rest.ensures.err in
    or_left (is_some (stored_page c.write-rest.new.self f p)) (is_awaited c.write-rest.new.self f p)
    (ap (λ (s : Store). is_some (stored_page s f p)) same
    ∙ mid_cached P f o b p end old less c.requires.here gone room page mid is)

pub returns-then-is_err-clause-err : goal.returns-then-is_err-clause-err
returns-then-is_err-clause-err t c =
    let P = c.args.span.page_size in
    let f = c.args.span.file in
    let o = c.args.span.offset in
    let b = c.args.bytes.now in
    let p = c.args.page in
    let end = c.args.span.end in
    let old = c.args.self.now in
    let less = ne_less p end c.requires.order c.if-page-span.false in
    let at = c.part-at.result.0 in
    let part = c.part-at.result.1.now in
    let page = with_part (blank old.page) at part in
    let gone = none_of _ (unset c.args.cached.now old f p end c.requires.flags less c.if-cached.false) in
    let room = room_some old f p end less gone c.requires.room in
    let mid = c.make_with.new.self in
    let is = c.in_ok-make_with.ensures.ok in
    let same : c.write-rest.new.self ≡ mid = when_err c.write-rest.result _ c.if-is_err.ensures.value
    c.write-rest.ensures.err in
    let there : is_some (stored_page c.write-rest.new.self f p) ≡ true =
    ap (λ (s : Store). is_some (stored_page s f p)) same
    ∙ mid_cached P f o b p end old less c.requires.here gone room page mid is in
    on_err_of c.write-rest.result _
    (unmade P f o b p end old less c.requires.here gone room page mid is c.make_with.ensures.unlisted c.leave.new.self
    (c.leave.ensures.page there ∙ ap (λ (s : Store). with_lists
    (with_pages s f (map.remove (stored_at s f).pages p) (s.free + 1)) (left f p s.lists)) same))

pub returns-else-is_err-clause-written : goal.returns-else-is_err-clause-written
returns-else-is_err-clause-written t c =
    let P = c.args.span.page_size in
    let f = c.args.span.file in
    let o = c.args.span.offset in
    let b = c.args.bytes.now in
    let p = c.args.page in
    let end = c.args.span.end in
    let old = c.args.self.now in
    let less = ne_less p end c.requires.order c.if-page-span.false in
    let above = touched_above P o p c.requires.positive c.requires.from in
    let below : p * P < o + length b =
    omega (
      arith,
      touched_below P (o + length b - 1) p c.requires.positive (omega (arith, less, c.requires.to)),
      c.requires.some,
    ) in
    let at = c.part-at.result.0 in
    let part = c.part-at.result.1.now in
    let page = with_part (blank old.page) at part in
    let gone = none_of _ (unset c.args.cached.now old f p end c.requires.flags less c.if-cached.false) in
    let room = room_some old f p end less gone c.requires.room in
    let mid = c.make_with.new.self in
    let is = c.in_ok-make_with.ensures.ok in
    let page_is : page ≡ written_page P o b p None =
    ap (λ n. with_part (blank n) at part) (sym c.requires.size)
    ∙ written_part P o p at b part (Some (blank P)) none c.part-at.ensures.at c.part-at.ensures.bytes refl
    (length-cut [] P) above below c.requires.some c.requires.positive in
    on_ok c.write-rest.result _ (λ _. written_more P f o b p end old less c.requires.here gone room page mid is page_is
    c.write-rest.new.self (when_ok c.write-rest.result _ c.if-is_err.ensures.value c.write-rest.ensures.written))

-- ---- a write that is refused

absent_here : (flags : List Bool) (s : Store) (f p end : ℕ) → AreFlags flags s.files f p end → p ≤ end → (p ≡ end → ⊥)
    → slice_index_or flags 0 false ≡ false → HasAbsent f p end s
absent_here flags s f p end told order other off =
    let less = ne_less p end order other in
    record { page = p; from = omega arith; before = less; absent = sym (unset flags s f p end told less off) }

absent_later : (s : Store) (f p end : ℕ) → HasAbsent f (p + 1) end s → HasAbsent f p end s
absent_later s f p end h =
    let from = h.from in record { page = h.page; from = omega (arith, from); before = h.before; absent = h.absent }

pub returns-in_err-write-clause-absent : goal.returns-in_err-write-clause-absent
returns-in_err-write-clause-absent t c =
    on_err_of c.from_residual.result _
    (absent_later c.args.self.now c.args.span.file c.args.page c.args.span.end c.in_err-write.ensures.absent)

pub returns-in_err-make_with-clause-absent : goal.returns-in_err-make_with-clause-absent
returns-in_err-make_with-clause-absent t c =
    on_err_of c.from_residual-in_err-make_with.result _
    (absent_here c.args.cached.now c.args.self.now c.args.span.file c.args.page c.args.span.end c.requires.flags
    c.requires.order c.if-page-span.false c.if-cached.false)

pub returns-then-is_err-clause-absent : goal.returns-then-is_err-clause-absent
returns-then-is_err-clause-absent t c =
    on_err_of c.write-rest.result _
    (absent_here c.args.cached.now c.args.self.now c.args.span.file c.args.page c.args.span.end c.requires.flags
    c.requires.order c.if-page-span.false c.if-cached.false)

pub returns-else-is_err-clause-absent : goal.returns-else-is_err-clause-absent
returns-else-is_err-clause-absent t c =
    on_err_of c.write-rest.result _
    (absent_here c.args.cached.now c.args.self.now c.args.span.file c.args.page c.args.span.end c.requires.flags
    c.requires.order c.if-page-span.false c.if-cached.false)
