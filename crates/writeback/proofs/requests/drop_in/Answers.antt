use Rattle.std.proofs.Common.{◌≡◌, ℕ, ◌+◌, ◌<◌, List, ◌++◌, length, get_or, set, take, drop, map, ap, ◌∙◌, arith}
use Rattle.std.proofs.lemmas.List.{get_or_default}
use Rattle.std.proofs.lemmas.List.Edits.{map_over_more}
use Rattle.writeback.specs.declared.requests.Entry.{Entry}
use Rattle.writeback.specs.Requests.{cut_entry}
use Rattle.writeback.proofs.requests.drop_in.Goals as goal

-- one more entry is changed
one_more : (f : Entry → Entry) (xs ys : List Entry) (i : ℕ) (d r : Entry) → i < length xs → length ys ≡ length xs
    → ys ≡ map f (take i xs) ++ drop i xs → r ≡ f (get_or ys i d)
    → set ys i r ≡ map f (take (i + 1) xs) ++ drop (i + 1) xs
one_more f xs ys i d r h n is e = ap (set ys i) e
    ∙ map_over_more f xs ys i (get_or ys i d) h is (get_or_default ys i d (get_or ys i d) (omega arith))

pub loop-entry-preserved : goal.loop-entry-preserved
loop-entry-preserved c = one_more (cut_entry c.args.file.0 c.args.page.0) c.args.in_flight.now c.loop-entry.in_flight
    c.loop-entry.entry-index _ c.cut.result c.loop-entry-test.true c.loop-entry.auto.in_flight c.loop-entry.invariant
    c.cut.ensures
