use Rattle.std.proofs.Common.{◌≡◌, length, ap, ◌∙◌, subst}
use Rattle.std.specs.Prelude.{Result, Ok, Err, OnOk}
use Rattle.pc_types.specs.declared.refusal.Refusal.{Refusal}
use Rattle.runs.specs.Plain.{Plain, plain_file}
use Rattle.filesvc.specs.Service.{IsOnDevice}
use Rattle.filesvc.proofs.Callers.{came_on, came_synced, file_synced, open_on, open_synced, written_is}
use Rattle.tests_filesvc.proofs.tests.save.Goals as goal

if_ok : {P : Type 0} (r : Result Unit Refusal) → P → OnOk r P
if_ok (Ok x) p = p
if_ok (Err x) p = tt

pub fsync-requires-in-Err-Io : goal.fsync-requires-in-Err-Io
fsync-requires-in-Err-Io g c = record {
  came = came_synced c.pwrite.new.self c.fsync.new.self c.args.handle.now c.fsync.new.handle c.fsync.ensures.serves.keeps c.fsync.ensures.told
      (came_on c.args.files.now c.pwrite.new.self c.args.handle.now c.pwrite.ensures.keeps c.requires.came);
}

pub returns-in_default-clause-open : goal.returns-in_default-clause-open
returns-in_default-clause-open g c = λ was.
    open_synced c.fsync.new.self c.args.handle.now c.fsync.new.handle c.fsync.ensures.told
    (open_on c.pwrite.new.self c.fsync.new.self c.args.handle.now c.fsync.ensures.serves.keeps
    (open_on c.args.files.now c.pwrite.new.self c.args.handle.now c.pwrite.ensures.keeps was))

pub returns-in_default-2-clause-open : goal.returns-in_default-2-clause-open
returns-in_default-2-clause-open g c = λ was.
    open_synced c.fsync.new.self c.args.handle.now c.fsync.new.handle c.fsync.ensures.told
    (open_on c.pwrite.new.self c.fsync.new.self c.args.handle.now c.fsync.ensures.serves.keeps
    (open_on c.args.files.now c.pwrite.new.self c.args.handle.now c.pwrite.ensures.keeps was))

pub returns-in-Err-Io-clause-open : goal.returns-in-Err-Io-clause-open
returns-in-Err-Io-clause-open g c = λ was.
    let written = open_on c.args.files.now c.pwrite.new.self c.args.handle.now c.pwrite.ensures.keeps was in
    let failed = open_synced c.fsync.new.self c.args.handle.now c.fsync.new.handle c.fsync.ensures.told
    (open_on c.pwrite.new.self c.fsync.new.self c.args.handle.now c.fsync.ensures.serves.keeps written) in
    open_synced c.fsync-in-Err-Io.new.self c.fsync.new.handle c.fsync-in-Err-Io.new.handle c.fsync-in-Err-Io.ensures.told
    (open_on c.fsync.new.self c.fsync-in-Err-Io.new.self c.fsync.new.handle c.fsync-in-Err-Io.ensures.serves.keeps failed)

pub returns-in-Err-Io-clause-saved : goal.returns-in-Err-Io-clause-saved
returns-in-Err-Io-clause-saved g c = λ names tells. if_ok c.fsync-in-Err-Io.result
    (ap (λ (p : Plain). plain_file p c.args.handle.now.file)
    (c.fsync-in-Err-Io.ensures.serves.files (c.fsync.ensures.serves.keeps.tells ∙ (c.pwrite.ensures.keeps.tells ∙ tells)))
    ∙ written_is c.args.files.now c.pwrite.new.self c.fsync.new.self c.args.handle.now 0 c.args.bytes.now c.in_ok-pwrite.field-0 (length c.args.bytes.now) (c.requires.came names) tells c.in_ok-pwrite.ensures.files c.pwrite.ensures.keeps c.fsync.ensures.serves)

pub returns-in-Err-Io-clause-synced : goal.returns-in-Err-Io-clause-synced
returns-in-Err-Io-clause-synced g c = λ names tells.
    let same : c.fsync.new.handle.file ≡ c.args.handle.now.file = file_synced c.fsync.new.self c.args.handle.now c.fsync.new.handle c.fsync.ensures.told in
    subst (λ f. OnOk c.fsync-in-Err-Io.result (IsOnDevice c.fsync-in-Err-Io.new.self f)) same (c.fsync-in-Err-Io.ensures.synced (c.fsync.ensures.serves.keeps.tells ∙ (c.pwrite.ensures.keeps.tells ∙ tells)))

pub returns-in_default-2-clause-saved : goal.returns-in_default-2-clause-saved
returns-in_default-2-clause-saved g c = λ names tells. if_ok c.fsync.result
    (written_is c.args.files.now c.pwrite.new.self c.fsync.new.self c.args.handle.now 0 c.args.bytes.now c.in_ok-pwrite.field-0 (length c.args.bytes.now) (c.requires.came names) tells c.in_ok-pwrite.ensures.files c.pwrite.ensures.keeps c.fsync.ensures.serves)

pub returns-in_default-2-clause-synced : goal.returns-in_default-2-clause-synced
returns-in_default-2-clause-synced g c = λ names tells. c.fsync.ensures.synced (c.pwrite.ensures.keeps.tells ∙ tells)
