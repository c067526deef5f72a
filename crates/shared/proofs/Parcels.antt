-- The parcels that a pass pushed and popped, as their jobs.
use Rattle.std.proofs.Common.{◌≡◌, List, [], ◌∷◌, ◌++◌, map, ap, sym, ◌∙◌}
use Rattle.std.proofs.lemmas.List.{map-append}
use Rattle.blockdev.specs.Jobs.{Task}
use Rattle.deeds.specs.Shown.{ParcelSeen}
use Rattle.ring.specs.Order.{with_popped, with_pushed}
use Rattle.ring.specs.declared.log.Log.{Log}
use Rattle.shared.specs.Workers.{company}

abbrev job_of : ParcelSeen → Task
job_of p = p.task

one_more : (ps : List ParcelSeen) (p : ParcelSeen) (job : Task) → job ≡ p.task → map job_of (ps ++ p ∷ []) ≡ map job_of ps ++ job ∷ []
one_more ps p job is = map-append job_of ps (p ∷ []) ∙ ap (λ x. map job_of ps ++ x ∷ []) (sym is)

pub popped_on : (v w : Log) (p : ParcelSeen) (job : Task) → job ≡ p.task → w ≡ with_popped v p
    → map (λ (q : ParcelSeen). q.task) w.popped ≡ map (λ (q : ParcelSeen). q.task) v.popped ++ job ∷ []
popped_on v w p job is on = ap (λ (x : Log). map job_of x.popped) on ∙ one_more v.popped p job is

pub pushed_on : (v w : Log) (p : ParcelSeen) (job : Task) → job ≡ p.task → w ≡ with_pushed v p
    → map (λ (q : ParcelSeen). q.task) w.pushed ≡ map (λ (q : ParcelSeen). q.task) v.pushed ++ job ∷ []
pushed_on v w p job is on = ap (λ (x : Log). map job_of x.pushed) on ∙ one_more v.pushed p job is

pub same_popped : (v w : Log) (p : ParcelSeen) → w ≡ with_pushed v p
    → map (λ (q : ParcelSeen). q.task) w.popped ≡ map (λ (q : ParcelSeen). q.task) v.popped
same_popped v w p on = ap (λ (x : Log). map job_of x.popped) on

pub same_pushed : (v w : Log) (p : ParcelSeen) → w ≡ with_popped v p
    → map (λ (q : ParcelSeen). q.task) w.pushed ≡ map (λ (q : ParcelSeen). q.task) v.pushed
same_pushed v w p on = ap (λ (x : Log). map job_of x.pushed) on

-- no step but the making of a pass changes what passes there are
pub beside_same : (v w : Log) → w ≡ v → company w ≡ company v
beside_same v w on = ap company on

pub beside_pushed : (v w : Log) (p : ParcelSeen) → w ≡ with_pushed v p → company w ≡ company v
beside_pushed v w p on = ap company on

pub beside_popped : (v w : Log) (p : ParcelSeen) → w ≡ with_popped v p → company w ≡ company v
beside_popped v w p on = ap company on
