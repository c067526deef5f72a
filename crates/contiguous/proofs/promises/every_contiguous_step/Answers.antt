use Rattle.contiguous.proofs.Begins.{catalogs_begin_contiguous, empty_begins_contiguous}
use Rattle.contiguous.proofs.Bytes.{bytes_are_in_place}
use Rattle.contiguous.proofs.Cuts.{truncations_keep_the_extent, truncations_stay_contiguous}
use Rattle.contiguous.proofs.Histories.{histories_stay_contiguous}
use Rattle.contiguous.proofs.Others.{others_keep_the_extent, others_stay_contiguous}
use Rattle.contiguous.proofs.Only.{only_such_writes}
use Rattle.contiguous.proofs.Writes.{writes_stay_contiguous}
use Rattle.contiguous.proofs.promises.every_contiguous_step.Goals as goal

pub returns-clause-writes : goal.returns-clause-writes
returns-clause-writes c = writes_stay_contiguous

pub returns-clause-only : goal.returns-clause-only
returns-clause-only c = only_such_writes

pub returns-clause-cut : goal.returns-clause-cut
returns-clause-cut c = truncations_keep_the_extent

pub returns-clause-truncations : goal.returns-clause-truncations
returns-clause-truncations c = truncations_stay_contiguous

pub returns-clause-kept : goal.returns-clause-kept
returns-clause-kept c = others_keep_the_extent

pub returns-clause-others : goal.returns-clause-others
returns-clause-others c = others_stay_contiguous

pub returns-clause-begin : goal.returns-clause-begin
returns-clause-begin c = catalogs_begin_contiguous

pub returns-clause-empty : goal.returns-clause-empty
returns-clause-empty c = empty_begins_contiguous

pub returns-clause-histories : goal.returns-clause-histories
returns-clause-histories c = histories_stay_contiguous

pub returns-clause-bytes : goal.returns-clause-bytes
returns-clause-bytes c = bytes_are_in_place
