use Rattle.runs.proofs.syncs.FewWrites.{sync_writes_are_few}
use Rattle.runs.proofs.syncs.DurableRuns.{syncs_are_durable}
use Rattle.runs.proofs.syncs.Bounds.{awaits_by_bound}
use Rattle.runs.proofs.syncs.SyncRuns.{dirty_pages_stay, syncs_are_synced, syncs_rise, syncs_tell}
use Rattle.runs.proofs.moments.AlwaysHold.{holds_always}
use Rattle.runs.proofs.moments.GoOn.{requests_go_on}
use Rattle.machine.proofs.steps.Determined.{steps_are_determined}
use Rattle.machine.proofs.steps.Stuck.{no_event_is_stuck}
use Rattle.runs.proofs.moments.FilesHeld.{files_are_held}
use Rattle.runs.proofs.moments.FilesSeen.{files_are_those}
use Rattle.runs.proofs.moments.ReadsRight.{reads_are_right}
use Rattle.runs.proofs.moments.Restarts.{runs_may_restart}
use Rattle.runs.proofs.moments.ValidBytes.{spots_are_whole_or_first}
use Rattle.runs.proofs.syncs.EndsClean.{syncs_leave_clean}
use Rattle.runs.proofs.moments.Untold.{other_bytes_are_untold}
use Rattle.runs.proofs.promises.every_run.Goals as goal

pub returns-clause-held : goal.returns-clause-held
returns-clause-held c = files_are_held

pub returns-clause-those : goal.returns-clause-those
returns-clause-those c = files_are_those

pub returns-clause-reads : goal.returns-clause-reads
returns-clause-reads c = reads_are_right

pub returns-clause-always : goal.returns-clause-always
returns-clause-always c = holds_always

pub returns-clause-go_on : goal.returns-clause-go_on
returns-clause-go_on c = requests_go_on

pub returns-clause-determined : goal.returns-clause-determined
returns-clause-determined c = steps_are_determined

pub returns-clause-never_stuck : goal.returns-clause-never_stuck
returns-clause-never_stuck c = no_event_is_stuck

pub returns-clause-synced : goal.returns-clause-synced
returns-clause-synced c = syncs_are_synced

pub returns-clause-durable : goal.returns-clause-durable
returns-clause-durable c = syncs_are_durable

pub returns-clause-stay : goal.returns-clause-stay
returns-clause-stay c = dirty_pages_stay

pub returns-clause-told : goal.returns-clause-told
returns-clause-told c = syncs_tell

pub returns-clause-rising : goal.returns-clause-rising
returns-clause-rising c = syncs_rise

pub returns-clause-awaited : goal.returns-clause-awaited
returns-clause-awaited c = awaits_by_bound

pub returns-clause-few : goal.returns-clause-few
returns-clause-few c = sync_writes_are_few

pub returns-clause-spots : goal.returns-clause-spots
returns-clause-spots c = spots_are_whole_or_first

pub returns-clause-untold : goal.returns-clause-untold
returns-clause-untold c = other_bytes_are_untold

pub returns-clause-restart : goal.returns-clause-restart
returns-clause-restart c = runs_may_restart

pub returns-clause-clean : goal.returns-clause-clean
returns-clause-clean c = syncs_leave_clean
