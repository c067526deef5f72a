-- What a script does: each command is a call of a session, with its answer on a line of its own.
use Rattle.std.specs.Prelude.{◌≡◌, ℕ, ◌+◌, ◌<◌, ◌≤◌, ◌⊎◌, Bool, true, false, if◌then◌else◌, List, [], ◌∷◌, ◌++◌, length, Option, Some, None, unwrap_or, Result, Ok, Err, MatchResult, codes}
use Rattle.std.specs.Result.{result_unwrap_or}
use Rattle.std.specs.Io.KnownBytes.{Keeps, Appends}
use Rattle.machine.specs.declared.event.Reply.{Reply}
use Rattle.machine.specs.declared.event.Reply.TheVariants.{Done}
use Rattle.cachecore.specs.Replies.{TagsAre}
use Rattle.cachecore.specs.declared.answers.PageTags.{PageTags}
use Rattle.pc_types.specs.declared.refusal.Refusal.{Refusal}
use Rattle.pc_types.specs.declared.refusal.Refusal.TheVariants.{BadCode, BadConfig}
use Rattle.pc_types.specs.Limits.{Sizes, is_err_code, is_geometry}
use Rattle.pc_types.specs.declared.ids.HandleId.{HandleId}
use Rattle.pc_types.specs.declared.ids.PageIndex.{PageIndex}
use Rattle.blockdev.specs.Device.{fresh}
use Rattle.blockdev.specs.declared.fault.FaultEffect.{FaultEffect}
use Rattle.world.specs.declared.step.Step.{Step}
use Rattle.world.specs.declared.step.Step.TheVariants as step
use Rattle.world.specs.Stepping.{Fails, WorldSeen, first_world}
use Rattle.script.specs.declared.command.Command.{Command}
use Rattle.script.specs.declared.command.Command.TheVariants as command
use Rattle.script.specs.declared.run.Ended.{Ended}
use Rattle.script.specs.declared.run.TheConstants.{MAX_LINE}
use Rattle.textline.specs.declared.stop.Stop.{Stop}
use Rattle.textline.specs.declared.stop.Stop.TheVariants.{Malformed, Input, Output, Memory}
use Rattle.script.specs.Answers.{answer_of, polled_text, refusal_text, tags_text}
use Rattle.script.specs.Commands.{Means}
use Rattle.script.specs.Sessions.{Fsyncs, Makes, Polls, SessionSeen, first_session}
use Rattle.textline.specs.Lines.{is_blank}
use Rattle.textline.specs.Prints.{AppendsPart, Writes, ended}
use Rattle.textline.specs.Stops.{reason_of, status_of}

-- ---- sizes

-- the sizes that a `config` line names, or the refusal
abbrev pub sizes_of : ℕ → ℕ → ℕ → ℕ → Result Sizes Refusal
sizes_of page frames dirty_limit blocks =
    let sizes : Sizes = record { page = page; frames = frames; dirty_limit = dirty_limit; blocks = blocks } in
    if is_geometry sizes then Ok sizes else Err BadConfig

-- the sizes of a script that names none, or none within their limits
abbrev pub default_sizes : Sizes
default_sizes = record { page = 16; frames = 48; dirty_limit = 16; blocks = 64 }

-- a world of these sizes over a device of zeros
abbrev pub world_of_sizes : Sizes → WorldSeen
world_of_sizes sizes = first_world sizes 0 (fresh sizes.page sizes.blocks)

-- a session in such a world
abbrev pub session_of_sizes : Sizes → SessionSeen
session_of_sizes sizes = first_session (world_of_sizes sizes)

-- what a `config` line prints
abbrev pub config_text : Result Sizes Refusal → List ℕ
config_text (Ok sizes) = codes "configured"
config_text (Err refusal) = refusal_text refusal

-- ---- one line

-- what is known of a page, or the refusal
abbrev pub known_text : Result PageTags Refusal → List ℕ
known_text (Ok tags) = tags_text tags
known_text (Err refusal) = refusal_text refusal

-- what a step answers. A device call answers that it was made
abbrev pub answer_to : Step → Reply → List ℕ
answer_to (step.Call t) Done = codes "done"
answer_to s reply = answer_of reply

-- the session makes the step, and its reply is printed
abbrev pub MakesStep : SessionSeen → Step → List ℕ → SessionSeen → Type 0
MakesStep old s printed new = (reply : Reply) × Makes old s reply new × (printed ≡ ended (answer_to s reply))

-- what comes of a device call that is to fail
abbrev pub failed_text : Result Unit Refusal → List ℕ
failed_text (Ok _) = codes "failed"
failed_text (Err refusal) = refusal_text refusal

-- the device call of a request is made and fails with this code, if it is one
abbrev pub FailsCall : SessionSeen → ℕ → Bool → ℕ → FaultEffect → List ℕ → SessionSeen → Type 0
FailsCall old serial true code effect printed new =
    (result : Result Unit Refusal) × Fails old.world serial code effect result new.world × (new ≡ record old { world = new.world }) × (printed ≡ ended (failed_text result))
FailsCall old serial false code effect printed new = (printed ≡ ended (refusal_text BadCode)) × (new ≡ old)

-- the handle's file, or a range of its pages, is synced from the beginning to the end, and what comes of it is printed
abbrev pub SyncsFile : SessionSeen → HandleId → Option (PageIndex × PageIndex) → List ℕ → SessionSeen → Type 0
SyncsFile old handle range printed new = (reply : Reply) × Fsyncs old handle range reply new × (printed ≡ ended (answer_of reply))

-- the handle is polled, and what it is told is printed
abbrev pub PollsHandle : SessionSeen → ℕ → List ℕ → SessionSeen → Type 0
PollsHandle old handle printed new = (polled : Result (Option ℕ) Refusal) × Polls old handle polled new × (printed ≡ ended (polled_text polled))

-- what is known of a page is printed
abbrev pub TellsTags : SessionSeen → ℕ → ℕ → List ℕ → Type 0
TellsTags s file page printed = (known : Result PageTags Refusal) × TagsAre s.world.core file page known × (printed ≡ ended (known_text known))

-- the session that a command finds. The first command finds that of the default sizes
abbrev pub session_found : Option SessionSeen → SessionSeen
session_found s = unwrap_or s (session_of_sizes default_sizes)

-- what a command prints, and the session after it. `config` is a command only where it is the first
abbrev pub Answers : Option SessionSeen → Command → List ℕ → SessionSeen → Type 0
Answers None (command.Config page frames dirty_limit blocks) printed new =
    (printed ≡ ended (config_text (sizes_of page frames dirty_limit blocks)))
    × (new ≡ session_of_sizes (result_unwrap_or (sizes_of page frames dirty_limit blocks) default_sizes))
Answers (Some s) (command.Config page frames dirty_limit blocks) printed new = ⊥
Answers old (command.Step s) printed new = MakesStep (session_found old) s printed new
Answers old (command.Fail serial code effect) printed new = FailsCall (session_found old) serial.0 (is_err_code code) code effect printed new
Answers old (command.Fsync handle range) printed new = SyncsFile (session_found old) handle range printed new
Answers old (command.Poll handle) printed new = PollsHandle (session_found old) handle.0 printed new
Answers old (command.Tags file page) printed new = TellsTags (session_found old) file.0 page.0 printed × (new ≡ session_found old)

-- an empty line or a comment prints nothing and changes nothing
abbrev pub IsPassedOver : Option SessionSeen → List ℕ → List ℕ → Option SessionSeen → Type 0
IsPassedOver old line printed new = (is_blank line ≡ true) × (printed ≡ []) × (new ≡ old)

-- any other line is answered as the command that it asks for
abbrev pub IsObeyed : Option SessionSeen → List ℕ → List ℕ → Option SessionSeen → Type 0
IsObeyed old line printed new = (is_blank line ≡ false) × (c : Command) × (s : SessionSeen) × Means line c × Answers old c printed s × (new ≡ Some s)

abbrev pub LineAnswers : Option SessionSeen → List ℕ → List ℕ → Option SessionSeen → Type 0
LineAnswers old line printed new = IsPassedOver old line printed new ⊎ IsObeyed old line printed new

-- a `config` line after another command
abbrev pub IsMisplaced : Option SessionSeen → Command → Type 0
IsMisplaced (Some s) (command.Config page frames dirty_limit blocks) = Unit {0}
IsMisplaced old c = ⊥

-- a line that is neither blank nor asks for a command that may stand there
abbrev pub IsNoCommand : Option SessionSeen → List ℕ → Type 0
IsNoCommand old line = (is_blank line ≡ false) × ((c : Command) → Means line c → IsMisplaced old c)

-- ---- all lines

-- what lines print, one after the other, and the session after them. Before the first command there is none
abbrev pub Answered : Option SessionSeen → List (List ℕ) → List ℕ → Option SessionSeen → Type 0
Answered old [] printed new = (printed ≡ []) × (new ≡ old)
Answered old (line ∷ lines) printed new =
    (first : List ℕ) × (rest : List ℕ) × (mid : Option SessionSeen) × (printed ≡ first ++ rest) × (length line ≤ MAX_LINE) × LineAnswers old line first mid × Answered mid lines rest new

-- the first n lines were answered, and nothing else was printed. The other lines are `rest`
abbrev pub AnsweredFirst : List (List ℕ) → ℕ → List (List ℕ) → Option SessionSeen → Option (List ℕ) → Option (List ℕ) → Type 0
AnsweredFirst lines n rest w before after =
    (done : List (List ℕ)) × (printed : List ℕ) × (lines ≡ done ++ rest) × (length done ≡ n) × Answered None done printed w × Appends before after printed

-- the first lines were answered, and of their answers a beginning was written. The other lines are `rest`
pub record PrintsPart (lines : List (List ℕ)) (before after : Option (List ℕ)) : Type 0 where
  pub first : List (List ℕ)
  pub rest : List (List ℕ)
  pub session : Option SessionSeen
  pub printed : List ℕ
  pub split : lines ≡ first ++ rest
  pub answered : Answered None first printed session
  pub written : AppendsPart before after printed

-- how a run ends: all lines were answered; or the first were, and the next, line n, is malformed; or the first were, and input or
-- memory failed; or the output failed, with a beginning of what it would have had
abbrev pub Ends : List (List ℕ) → Result (Unit {0}) Stop → Option (List ℕ) → Option (List ℕ) → Type 0
Ends lines (Ok _) before after = (n : ℕ) × (w : Option SessionSeen) × AnsweredFirst lines n [] w before after
Ends lines (Err (Malformed n)) before after =
    (k : ℕ) × (w : Option SessionSeen) × (line : List ℕ) × (rest : List (List ℕ))
    × (n ≡ k + 1) × AnsweredFirst lines k (line ∷ rest) w before after × ((MAX_LINE < length line) ⊎ IsNoCommand w line)
Ends lines (Err Input) before after = (n : ℕ) × (w : Option SessionSeen) × (rest : List (List ℕ)) × AnsweredFirst lines n rest w before after
Ends lines (Err Memory) before after = (n : ℕ) × (w : Option SessionSeen) × (rest : List (List ℕ)) × AnsweredFirst lines n rest w before after
Ends lines (Err Output) before after = PrintsPart lines before after

-- the status tells how the run ended
abbrev pub status_of_end : Result (Unit {0}) Stop → ℕ
status_of_end (Ok _) = 0
status_of_end (Err stop) = status_of stop

-- why a run ended early, on a line of its own
abbrev pub message_of : Stop → List ℕ
message_of stop = ended (codes "pcache: " ++ reason_of stop)

-- what stands on standard error after a run: nothing where all lines were answered, else why it ended, if the writer took that
abbrev pub Says : Ended → Option (List ℕ) → Option (List ℕ) → Type 0
Says run before after = MatchResult run.end (λ _. (run.is_said ≡ true) × Keeps before after) (λ stop. run.is_said ≡ true → Appends before after (message_of stop))

-- ---- what one line comes to in code

-- the sizes were taken, or the refusal and so the default ones, and what the `config` line prints was printed; or memory was refused
abbrev pub ConfigGives : Result Sizes Refusal → Result (Unit {0}) Stop → Option SessionSeen → Option (List ℕ) → Option (List ℕ) → Type 0
ConfigGives sizes (Err Memory) new before after = Keeps before after
ConfigGives sizes r new before after =
    (new ≡ Some (session_of_sizes (result_unwrap_or sizes default_sizes))) × Writes r (ended (config_text sizes)) before after

-- a command's answer was printed, and the session after it is the one that it tells of; or it was none and nothing was printed
abbrev pub CommandGives : Option SessionSeen → ℕ → Command → Result (Unit {0}) Stop → Option SessionSeen → Option (List ℕ) → Option (List ℕ) → Type 0
CommandGives old number c (Ok _) new before after = (printed : List ℕ) × (s : SessionSeen) × Answers old c printed s × (new ≡ Some s) × Appends before after printed
CommandGives old number c (Err (Malformed n)) new before after = (n ≡ number) × IsMisplaced old c × Keeps before after
CommandGives old number c (Err Output) new before after = (printed : List ℕ) × (s : SessionSeen) × Answers old c printed s × AppendsPart before after printed
CommandGives old number c (Err _) new before after = Keeps before after

-- the same of a line
abbrev pub LineGives : Option SessionSeen → ℕ → List ℕ → Result (Unit {0}) Stop → Option SessionSeen → Option (List ℕ) → Option (List ℕ) → Type 0
LineGives old number line (Ok _) new before after = (printed : List ℕ) × LineAnswers old line printed new × Appends before after printed
LineGives old number line (Err (Malformed n)) new before after = (n ≡ number) × IsNoCommand old line × Keeps before after
LineGives old number line (Err Output) new before after = (printed : List ℕ) × (w : Option SessionSeen) × LineAnswers old line printed w × AppendsPart before after printed
LineGives old number line (Err _) new before after = Keeps before after
