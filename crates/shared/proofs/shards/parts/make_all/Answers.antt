use Rattle.std.proofs.Common.{arith, ap, sym, subst, refl, ◌∙◌, ◌≡◌, ◌++◌, ◌∷◌, [], List, length, map, true, vec_len, drop}
use Rattle.std.proofs.lemmas.Bool.Decides.{nat_tests}
use Rattle.std.proofs.lemmas.List.{nil_from_length}
use Rattle.catalog.specs.Cataloged.{fits}
use Rattle.shared.specs.Keeps.{IsDisk}
use Rattle.shared.specs.ShardNames.{CacheNames}
use Rattle.shared.specs.ShardParts.{AllFirst}
use Rattle.shared.specs.ShardSeats.{AreCallers}
use Rattle.shared.specs.declared.shards.parts.Source.{Source}
use Rattle.shared.proofs.ShardMaking.{Made, first_all, first_has, head_is, made_more, names_back, ok_then, rest_all}
use Rattle.shared.proofs.ShardRowing.{seated_nowhere}
use Rattle.shared.proofs.shards.parts.make_all.Goals as goal

pub loop-alloc-init : goal.loop-alloc-init
loop-alloc-init g c =
    let none : vec_len c.args.made ≡ 0 = c.args.made.ok.0 ∙ ap length c.requires.made.0 in (
      subst (λ ns. AllFirst (Made g.D.BlockDevice.told g.T.Trail.whole c.args.geometry.now (vec_len c.args.seats.now)) ns c.args.left.items)
          (sym c.requires.made.0) tt,
      ap (λ n. drop n c.args.left.items) (sym none),
      omega (arith, none, c.requires.made.1),
      refl,
      subst (λ ns. AreCallers ns c.args.seats.now.items) (sym c.requires.made.0) (seated_nowhere c.args.seats.now.items c.requires.empty),
      c.requires.devices,
      c.requires.fits,
    )

pub make-requires-clause-device : goal.make-requires-clause-device
make-requires-clause-device g c =
    first_has c.loop-alloc.left.items c.remove-source.result (omega (arith, c.remove-source.ensures.len, c.loop-alloc.left.ok.0)) c.remove-source.ensures.value
    (λ s. IsDisk c.args.geometry.now (g.D.BlockDevice.told s.device)) c.loop-alloc.invariant.5

pub make-requires-clause-fits : goal.make-requires-clause-fits
make-requires-clause-fits g c =
    first_has c.loop-alloc.left.items c.remove-source.result (omega (arith, c.remove-source.ensures.len, c.loop-alloc.left.ok.0)) c.remove-source.ensures.value
    (λ s. fits c.args.geometry.now s.files ≡ true) c.loop-alloc.invariant.6

pub loop-alloc-preserved : goal.loop-alloc-preserved
loop-alloc-preserved g c =
    let left_is : c.loop-alloc.left.items ≡ c.remove-source.result ∷ c.remove-source.new.self.items =
    head_is c.loop-alloc.left.items c.remove-source.result (omega (arith, c.remove-source.ensures.len, c.loop-alloc.left.ok.0)) c.remove-source.ensures.value
    ∙ ap (λ xs. c.remove-source.result ∷ xs) (sym c.remove-source.ensures.items) in
    let one : Made g.D.BlockDevice.told g.T.Trail.whole c.args.geometry.now (vec_len c.args.seats.now) c.in-Ok.one c.remove-source.result =
    subst (λ n. Made g.D.BlockDevice.told g.T.Trail.whole c.args.geometry.now n c.in-Ok.one c.remove-source.result)
    (c.len.ensures ∙ c.loop-alloc.invariant.3) c.in-Ok.ensures.made in
    let more : AllFirst (Made g.D.BlockDevice.told g.T.Trail.whole c.args.geometry.now (vec_len c.args.seats.now)) (c.loop-alloc.made.items ++ c.in-Ok.one ∷ []) c.args.left.items
    × (c.remove-source.new.self.items ≡ drop (length (c.loop-alloc.made.items ++ c.in-Ok.one ∷ [])) c.args.left.items) =
    made_more g.D.BlockDevice.told g.T.Trail.whole c.args.geometry.now (vec_len c.args.seats.now) c.loop-alloc.made.items c.in-Ok.one
    c.remove-source.result c.loop-alloc.left.items c.remove-source.new.self.items c.args.left.items c.loop-alloc.invariant.0
    (c.loop-alloc.invariant.1 ∙ ap (λ n. drop n c.args.left.items) c.loop-alloc.made.ok.0) left_is one in
    let seated : AreCallers (c.loop-alloc.made.items ++ c.in-Ok.one ∷ []) c.seat_all-seated.new.rows.items =
    ok_then c.seat_all-seated.result (AreCallers (c.loop-alloc.made.items ++ c.in-Ok.one ∷ []) c.seat_all-seated.new.rows.items)
    (sym c.is_err.ensures.value ∙ c.if-is_err.false)
    (c.seat_all-seated.ensures.seated c.loop-alloc.made.items c.in-Ok.one c.loop-alloc.invariant.4 c.in-Ok.ensures.seats.1) in (
      subst (λ ns. AllFirst (Made g.D.BlockDevice.told g.T.Trail.whole c.args.geometry.now (vec_len c.args.seats.now)) ns c.args.left.items) (sym c.push_reserved.ensures.items) more.0,
      more.1 ∙ ap (λ (ns : List CacheNames). drop (length ns) c.args.left.items) (sym c.push_reserved.ensures.items)
          ∙ ap (λ n. drop n c.args.left.items) (sym c.push_reserved.new.self.ok.0),
      omega (arith, c.loop-alloc.invariant.2, c.push_reserved.ensures.len, c.push_reserved.ensures.capacity, c.remove-source.ensures.len),
      c.seat_all-seated.ensures.len ∙ c.loop-alloc.invariant.3,
      subst (λ ns. AreCallers ns c.seat_all-seated.new.rows.items) (sym c.push_reserved.ensures.items) seated,
      rest_all c.remove-source.new.self.items c.loop-alloc.left.items c.remove-source.result left_is
          (λ s. IsDisk c.args.geometry.now (g.D.BlockDevice.told s.device)) c.loop-alloc.invariant.5,
      rest_all c.remove-source.new.self.items c.loop-alloc.left.items c.remove-source.result left_is
          (λ s. fits c.args.geometry.now s.files ≡ true) c.loop-alloc.invariant.6,
    )

pub returns-then-is_err-clause-back : goal.returns-then-is_err-clause-back
returns-then-is_err-clause-back g c =
    let left_is : c.loop-alloc.left.items ≡ c.remove-source.result ∷ c.remove-source.new.self.items =
    head_is c.loop-alloc.left.items c.remove-source.result (omega (arith, c.remove-source.ensures.len, c.loop-alloc.left.ok.0)) c.remove-source.ensures.value
    ∙ ap (λ xs. c.remove-source.result ∷ xs) (sym c.remove-source.ensures.items) in
    let one : Made g.D.BlockDevice.told g.T.Trail.whole c.args.geometry.now (vec_len c.args.seats.now) c.in-Ok.one c.remove-source.result =
    subst (λ n. Made g.D.BlockDevice.told g.T.Trail.whole c.args.geometry.now n c.in-Ok.one c.remove-source.result)
    (c.len.ensures ∙ c.loop-alloc.invariant.3) c.in-Ok.ensures.made in
    let more : AllFirst (Made g.D.BlockDevice.told g.T.Trail.whole c.args.geometry.now (vec_len c.args.seats.now)) (c.loop-alloc.made.items ++ c.in-Ok.one ∷ []) c.args.left.items
    × (c.remove-source.new.self.items ≡ drop (length (c.loop-alloc.made.items ++ c.in-Ok.one ∷ [])) c.args.left.items) =
    made_more g.D.BlockDevice.told g.T.Trail.whole c.args.geometry.now (vec_len c.args.seats.now) c.loop-alloc.made.items c.in-Ok.one
    c.remove-source.result c.loop-alloc.left.items c.remove-source.new.self.items c.args.left.items c.loop-alloc.invariant.0
    (c.loop-alloc.invariant.1 ∙ ap (λ n. drop n c.args.left.items) c.loop-alloc.made.ok.0) left_is one in
    ap (λ ns. map (λ (n : CacheNames). n.name) ns ++ map (λ (s : Source g.row.D.Denot g.row.T.Denot). s.name) c.remove-source.new.self.items) c.push_reserved.ensures.items
    ∙ names_back g.D.BlockDevice.told g.T.Trail.whole c.args.geometry.now (vec_len c.args.seats.now) (c.loop-alloc.made.items ++ c.in-Ok.one ∷ []) c.remove-source.new.self.items c.args.left.items more.0 more.1

pub returns-then-is_err-clause-made_of : goal.returns-then-is_err-clause-made_of
returns-then-is_err-clause-made_of g c =
    let left_is : c.loop-alloc.left.items ≡ c.remove-source.result ∷ c.remove-source.new.self.items =
    head_is c.loop-alloc.left.items c.remove-source.result (omega (arith, c.remove-source.ensures.len, c.loop-alloc.left.ok.0)) c.remove-source.ensures.value
    ∙ ap (λ xs. c.remove-source.result ∷ xs) (sym c.remove-source.ensures.items) in
    let one : Made g.D.BlockDevice.told g.T.Trail.whole c.args.geometry.now (vec_len c.args.seats.now) c.in-Ok.one c.remove-source.result =
    subst (λ n. Made g.D.BlockDevice.told g.T.Trail.whole c.args.geometry.now n c.in-Ok.one c.remove-source.result)
    (c.len.ensures ∙ c.loop-alloc.invariant.3) c.in-Ok.ensures.made in
    let more : AllFirst (Made g.D.BlockDevice.told g.T.Trail.whole c.args.geometry.now (vec_len c.args.seats.now)) (c.loop-alloc.made.items ++ c.in-Ok.one ∷ []) c.args.left.items
    × (c.remove-source.new.self.items ≡ drop (length (c.loop-alloc.made.items ++ c.in-Ok.one ∷ [])) c.args.left.items) =
    made_more g.D.BlockDevice.told g.T.Trail.whole c.args.geometry.now (vec_len c.args.seats.now) c.loop-alloc.made.items c.in-Ok.one
    c.remove-source.result c.loop-alloc.left.items c.remove-source.new.self.items c.args.left.items c.loop-alloc.invariant.0
    (c.loop-alloc.invariant.1 ∙ ap (λ n. drop n c.args.left.items) c.loop-alloc.made.ok.0) left_is one in
    subst (λ ns. AllFirst (Made g.D.BlockDevice.told g.T.Trail.whole c.args.geometry.now (vec_len c.args.seats.now)) ns c.args.left.items) (sym c.push_reserved.ensures.items) more.0

pub returns-then-is_err-clause-left : goal.returns-then-is_err-clause-left
returns-then-is_err-clause-left g c =
    let left_is : c.loop-alloc.left.items ≡ c.remove-source.result ∷ c.remove-source.new.self.items =
    head_is c.loop-alloc.left.items c.remove-source.result (omega (arith, c.remove-source.ensures.len, c.loop-alloc.left.ok.0)) c.remove-source.ensures.value
    ∙ ap (λ xs. c.remove-source.result ∷ xs) (sym c.remove-source.ensures.items) in
    let one : Made g.D.BlockDevice.told g.T.Trail.whole c.args.geometry.now (vec_len c.args.seats.now) c.in-Ok.one c.remove-source.result =
    subst (λ n. Made g.D.BlockDevice.told g.T.Trail.whole c.args.geometry.now n c.in-Ok.one c.remove-source.result)
    (c.len.ensures ∙ c.loop-alloc.invariant.3) c.in-Ok.ensures.made in
    let more : AllFirst (Made g.D.BlockDevice.told g.T.Trail.whole c.args.geometry.now (vec_len c.args.seats.now)) (c.loop-alloc.made.items ++ c.in-Ok.one ∷ []) c.args.left.items
    × (c.remove-source.new.self.items ≡ drop (length (c.loop-alloc.made.items ++ c.in-Ok.one ∷ [])) c.args.left.items) =
    made_more g.D.BlockDevice.told g.T.Trail.whole c.args.geometry.now (vec_len c.args.seats.now) c.loop-alloc.made.items c.in-Ok.one
    c.remove-source.result c.loop-alloc.left.items c.remove-source.new.self.items c.args.left.items c.loop-alloc.invariant.0
    (c.loop-alloc.invariant.1 ∙ ap (λ n. drop n c.args.left.items) c.loop-alloc.made.ok.0) left_is one in
    more.1 ∙ ap (λ (ns : List CacheNames). drop (length ns) c.args.left.items) (sym c.push_reserved.ensures.items)
    ∙ ap (λ n. drop n c.args.left.items) (sym c.push_reserved.new.self.ok.0)

pub returns-in-Err-clause-back : goal.returns-in-Err-clause-back
returns-in-Err-clause-back g c =
    let left_is : c.loop-alloc.left.items ≡ c.remove-source.result ∷ c.remove-source.new.self.items =
    head_is c.loop-alloc.left.items c.remove-source.result (omega (arith, c.remove-source.ensures.len, c.loop-alloc.left.ok.0)) c.remove-source.ensures.value
    ∙ ap (λ xs. c.remove-source.result ∷ xs) (sym c.remove-source.ensures.items) in
    names_back g.D.BlockDevice.told g.T.Trail.whole c.args.geometry.now (vec_len c.args.seats.now) c.loop-alloc.made.items c.insert.new.self.items
    c.args.left.items c.loop-alloc.invariant.0
    (c.in-Ok-insert.ensures.items ∙ ap (λ s. s ∷ c.remove-source.new.self.items) c.in-Err.ensures.back ∙ sym left_is ∙ c.loop-alloc.invariant.1
    ∙ ap (λ n. drop n c.args.left.items) c.loop-alloc.made.ok.0)

pub returns-clause-made : goal.returns-clause-made
returns-clause-made g c =
    let none : vec_len c.loop-alloc.left ≡ 0 = grind (arith, nat_tests, c.is_empty.ensures, c.loop-alloc-test.false) in
    first_all (Made g.D.BlockDevice.told g.T.Trail.whole c.args.geometry.now (vec_len c.args.seats.now)) c.loop-alloc.made.items c.args.left.items c.loop-alloc.invariant.0
    (ap (λ n. drop n c.args.left.items) (sym c.loop-alloc.made.ok.0) ∙ sym c.loop-alloc.invariant.1
    ∙ nil_from_length c.loop-alloc.left.items (sym c.loop-alloc.left.ok.0 ∙ none))
