use Rattle.std.proofs.Common.{arith, ap, sym, ◌∙◌, ◌≡◌, ◌+◌, ◌-◌, ◌++◌, ℕ, List, true}
use Rattle.std.specs.Prelude.{slice_range, take, drop}
use Rattle.std.proofs.lemmas.Bool.{false≢true}
use Rattle.std.proofs.lemmas.List.{drop-drop, append_assoc}
use Rattle.frames.specs.Table.{Table}
use Rattle.pagestore.specs.Store.{the_page, stored_at, store_of}
use Rattle.pagestore.proofs.PagePlaces.{FilePage}
use Rattle.pagestore.proofs.ReadFrames.{frame_bytes, frame_cached, frame_taken, read_seen, read_store, walked_entry, walked_none}
use Rattle.pagestore.proofs.pages.Pages.read_part.Goals as goal
use Rattle.pagestore.proofs.pages.Pages.read_part.Goals.{After-self}
use borrow.Rule.Slice.PartMut.{put_mid}

abbrev at : After-self → FilePage
at c = record {
  pages = c.self.inside;
  kept = c.self.invariant;
  store = c.args.self.now;
  seen = c.self.view_is;
  file = c.args.file;
  page = c.args.page;
  here = c.requires.here;
}

pub unreachable-requires : goal.unreachable-requires
unreachable-requires c =
    let w = at (goal.at.unreachable-requires c).After-self in
    false≢true (walked_none w
    c.index.result.now c.index.ensures c.in_default.ensures ∙ c.requires.cached)

pub bytes-bytes-requires : goal.bytes-bytes-requires
bytes-bytes-requires c =
    let w = at (goal.at.bytes-bytes-requires c).After-self in
    frame_taken w c.in-Some.frame
    (walked_entry w c.index.result.now
    c.index.ensures c.in-Some.frame c.in-Some.ensures)

pub accessed-requires : goal.accessed-requires
accessed-requires c =
    let w = at (goal.at.accessed-requires c).After-self in
    frame_taken w c.in-Some.frame
    (walked_entry w c.index.result.now
    c.index.ensures c.in-Some.frame c.in-Some.ensures)

pub returns-clause-after : goal.returns-clause-after
returns-clause-after c =
    let w = at (goal.at.returns-clause-after c).After-self in
    let n = c.args.to - c.args.from in
    let page = frame_bytes w
    c.in-Some.frame (walked_entry w
    c.index.result.now c.index.ensures c.in-Some.frame c.in-Some.ensures)
    (frame_cached w c.in-Some.frame
    (walked_entry w c.index.result.now
    c.index.ensures c.in-Some.frame c.in-Some.ensures) ∙ c.requires.cached) in
    let bytes : List ℕ = slice_range (the_page (stored_at c.args.self.now c.args.file).pages c.args.page).bytes
    c.args.at (c.args.at + n) in
    let part : c.copy_from_slice.new.self ≡ bytes = c.copy_from_slice.ensures.after
    ∙ ap (λ (bs : List ℕ). slice_range bs c.args.at (c.args.at + n)) (c.bytes-bytes.ensures.bytes ∙ page) in
    let end : c.args.from + n ≡ c.args.to = omega (arith, c.requires.order) in
    ap (λ (ys : List ℕ). put_mid c.args.from n c.args.out.now ys) part
    ∙ ap (λ (xs : List ℕ). take c.args.from c.args.out.now ++ (bytes ++ xs))
    (drop-drop n c.args.from c.args.out.now ∙ ap (λ k. drop k c.args.out.now) end)
    ∙ sym (append_assoc (take c.args.from c.args.out.now) bytes (drop c.args.to c.args.out.now))

pub returns-clause-moved : goal.returns-clause-moved
returns-clause-moved c =
    let w = at (goal.at.returns-clause-moved c).After-self in
    ap (λ (u : Table). store_of u c.self.inside.uptodate.items c.self.inside.files.items) c.accessed.ensures
    ∙ read_seen w c.in-Some.frame
    (walked_entry w c.index.result.now
    c.index.ensures c.in-Some.frame c.in-Some.ensures)

pub invariant_of-self : goal.invariant_of-self
invariant_of-self c =
    let w = at (goal.at.invariant_of-self c).After-self in
    let there = walked_entry w c.index.result.now c.index.ensures c.in-Some.frame c.in-Some.ensures in
    read_store w c.in-Some.frame there c.accessed.new.self true (λ _. c.accessed.ensures) (λ none. absurd cc)
