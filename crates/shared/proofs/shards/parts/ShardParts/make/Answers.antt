use Rattle.std.proofs.Common.{sym, subst, ◌∙◌, ◌≡◌, ◌<◌, ◌≤◌, ◌+◌, true, length, map, vec_len}
use Rattle.std.proofs.lemmas.List.{length-map}
use Rattle.shared.specs.ShardConfigs.{is_config}
use Rattle.shared.specs.ShardNames.{CacheNames}
use Rattle.shared.specs.ShardParts.{AllBoth, AllFirst}
use Rattle.shared.specs.declared.shards.parts.Source.{Source}
use Rattle.shared.proofs.ShardMaking.{Made, both_all, both_length, config_fits, config_is, fit_each}
use Rattle.shared.proofs.shards.parts.ShardParts.make.Goals as goal

pub make_all-requires-clause-callers : goal.make_all-requires-clause-callers
make_all-requires-clause-callers g c =
    let ok : is_config c.args.geometry.now (map (λ (s : Source g.row.D.Denot g.row.T.Denot). s.name) c.args.sources.items)
    (map (λ (s : Source g.row.D.Denot g.row.T.Denot). s.files) c.args.sources.items) c.args.callers ≡ true = cc in
    let is = config_is c.args.geometry.now (map (λ (s : Source g.row.D.Denot g.row.T.Denot). s.name) c.args.sources.items)
    (map (λ (s : Source g.row.D.Denot g.row.T.Denot). s.files) c.args.sources.items) c.args.callers ok in
    subst (λ n. (0 < n) × (n ≤ 64)) (sym c.in-Ok-without_shards.ensures.len) (is.2, is.3)

pub make_all-requires-clause-fits : goal.make_all-requires-clause-fits
make_all-requires-clause-fits g c =
    let ok : is_config c.args.geometry.now (map (λ (s : Source g.row.D.Denot g.row.T.Denot). s.name) c.args.sources.items)
    (map (λ (s : Source g.row.D.Denot g.row.T.Denot). s.files) c.args.sources.items) c.args.callers ≡ true = cc in
    fit_each c.args.geometry.now c.args.sources.items
    (config_fits c.args.geometry.now (map (λ (s : Source g.row.D.Denot g.row.T.Denot). s.name) c.args.sources.items)
    (map (λ (s : Source g.row.D.Denot g.row.T.Denot). s.files) c.args.sources.items) c.args.callers ok)

pub returns-in-Ok-make_all-clause-made : goal.returns-in-Ok-make_all-clause-made
returns-in-Ok-make_all-clause-made g c =
    subst (λ n. AllBoth (Made g.D.BlockDevice.told g.T.Trail.whole c.args.geometry.now n) c.in-Ok-make_all.parts.items c.args.sources.items)
    c.in-Ok-without_shards.ensures.len c.in-Ok-make_all.ensures.made

pub returns-in-Err-clause-made_of : goal.returns-in-Err-clause-made_of
returns-in-Err-clause-made_of g c =
    subst (λ n. AllFirst (Made g.D.BlockDevice.told g.T.Trail.whole c.args.geometry.now n) c.in-Err.unmade.made.items c.args.sources.items)
    c.in-Ok-without_shards.ensures.len c.in-Err.ensures.made_of

pub invariant_of-result : goal.invariant_of-result
invariant_of-result g c =
    let ok : is_config c.args.geometry.now (map (λ (s : Source g.row.D.Denot g.row.T.Denot). s.name) c.args.sources.items)
    (map (λ (s : Source g.row.D.Denot g.row.T.Denot). s.files) c.args.sources.items) c.args.callers ≡ true = cc in
    let is = config_is c.args.geometry.now (map (λ (s : Source g.row.D.Denot g.row.T.Denot). s.name) c.args.sources.items)
    (map (λ (s : Source g.row.D.Denot g.row.T.Denot). s.files) c.args.sources.items) c.args.callers ok in
    let made : AllBoth (Made g.D.BlockDevice.told g.T.Trail.whole c.args.geometry.now c.args.callers) c.in-Ok-make_all.parts.items c.args.sources.items =
    subst (λ n. AllBoth (Made g.D.BlockDevice.told g.T.Trail.whole c.args.geometry.now n) c.in-Ok-make_all.parts.items c.args.sources.items)
    c.in-Ok-without_shards.ensures.len c.in-Ok-make_all.ensures.made in
    let long : vec_len c.in-Ok-make_all.parts ≡ length (map (λ (s : Source g.row.D.Denot g.row.T.Denot). s.name) c.args.sources.items) =
    c.in-Ok-make_all.parts.ok.0
    ∙ both_length (Made g.D.BlockDevice.told g.T.Trail.whole c.args.geometry.now c.args.callers) c.in-Ok-make_all.parts.items c.args.sources.items made
    ∙ sym (length-map c.args.sources.items (λ (s : Source g.row.D.Denot g.row.T.Denot). s.name)) in (
      subst (λ n. 0 < n) (sym long) is.0,
      subst (λ n. n ≤ 16) (sym long) is.1,
      both_all (Made g.D.BlockDevice.told g.T.Trail.whole c.args.geometry.now c.args.callers) (λ (n : CacheNames). n.seats ≡ c.args.callers + 1)
          (λ n s m. m.seats) c.in-Ok-make_all.parts.items c.args.sources.items made,
    )
