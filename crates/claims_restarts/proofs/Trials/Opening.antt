-- A board whose settings are blank is read by anybody: its password is public, settings with readout on can be written, and after one more start
-- Read back tells what MAIN holds.
use Rattle.std.specs.Prelude.{None}
use mathlib.Core.Path.{◌≡◌, refl, sym, ap, ap₂, ◌∙◌}
use mathlib.Core.Bool.{Bool, true, false, not}
use mathlib.Core.List.{List, [], ◌∷◌, ◌++◌}
use Prim.Native.Nat.{ℕ, ◌/◌, ◌≤◌}
use native.Mathlib.Omega.{arith}
use lib.ListN.{length, take, replicate, length-replicate}
use lib.Seq.{take_all, take-append_seam}
use Rattle.octets.specs.Choice.{pick}
use Rattle.octets.specs.Number.{number_of, bytes_of, part, is_multiple}
use Rattle.octets.specs.Alike.{all_are, are_same}
use Rattle.octets.proofs.AlikeLaws.{equal_are_same, replicate_all_are}
use Rattle.octets.proofs.StoreLaws.{stored_whole}
use Rattle.octets.proofs.Parts.{part_there, length_part, each_cons, each_append}
use Rattle.octets.proofs.Numbers.{each_bytes_of}
use Rattle.octets.proofs.Searching.{none_found}
use Rattle.parts.specs.Parts.{mspm0}
use Rattle.checksum.specs.Checksum.{checksum_of}
use Rattle.line.specs.Codes as codes
use Rattle.line.specs.Codes.{reply_limit, acknowledged, is_one_of}
use Rattle.line.specs.Packet.{data_in}
use Rattle.line.specs.declared.Reply.{Reply}
use Rattle.line.specs.declared.Reply.TheVariants.{Bytes}
use Rattle.line.specs.Replies.{read_back_most, reply_bytes, Sent}
use Rattle.line.specs.declared.Guarded.TheVariants as guarded
use Rattle.line.specs.declared.Guarded.{Guarded}
use Rattle.line.specs.declared.Command.TheVariants as command
use Rattle.line.specs.Acknowledgement.{is_rate, acknowledgement}
use Rattle.line.specs.Commands.{is_silent, length_fits, guarded_of, guarded_in, command_of}
use Rattle.session_state.specs.declared.Standing.{Standing}
use Rattle.session_state.specs.Phases.{counts_fit, is_valid}
use Rattle.session_state.specs.Waits.{is_idle_too_long, command_idles, pass_time}
use Rattle.settings.specs.Held.{Settings}
use Rattle.settings.specs.Values.{is_allowed, blank_settings}
use Rattle.settings.specs.Layout.{image_size}
use Rattle.settings.specs.Kept.{kept_of, blank_kept}
use Rattle.settings.specs.Answers.{SettingsTold, ReadTold, accepted, settings_only}
use Rattle.settings.specs.Reader.{read_of}
use Rattle.settings.specs.Image.{image_of}
use Rattle.flash.specs.declared.Place.{Place}
use Rattle.flash.specs.declared.Region.{Region}
use Rattle.flash.specs.declared.Region.TheVariants as region
use Rattle.flash.specs.Memory.{memory, bytes_in, bytes_at}
use Rattle.flash.specs.Regions.{is_main_size, lies_within, has_protected, place_of}
use Rattle.flash.specs.Protection.{may_change, first_kept, found_before}
use Rattle.flash.specs.Programming.{program_of}
use Rattle.flash.proofs.WordLaws.{program_on_blank}
use Rattle.session_judge.specs.declared.Effect.TheVariants.{Perform}
use Rattle.session_judge.specs.Judgement.{judged}
use Rattle.session_judge.specs.Unlocking.{after_right, tried}
use Rattle.session_judge.specs.Hearing.{stirred, heard_in_command, heard_after, judged_of}
use Rattle.session_send.specs.Answering.{hushed, answer_of}
use Rattle.session_send.proofs.AnsweringLaws.{others_are_told, answer_is_whole}
use Rattle.session.specs.CallAnswers.{Left}
use Rattle.session.specs.Records.{is_record}
use Rattle.session.specs.Calling.{followed, serve_of}
use Rattle.session.proofs.RecordLaws.{clauses_make_record}
use Rattle.session_act.specs.declared.Order.TheVariants.{ProgramSettings}
use Rattle.session_act.specs.declared.Planned.{Planned}
use Rattle.session_act.specs.Plans.{orders}
use Rattle.session_act.specs.Orders.{carried_out}
use Rattle.session_act.specs.Programming.{is_outside, is_window, is_aligned, program_in, program}
use Rattle.session_act.specs.Showing.{readout_on, read_back_at}
use Rattle.claims.specs.Held.{HeldContents}
use Rattle.claims.specs.TwoBoards.{Images, Running, settings_of, started, called, next, replied, is_struck}
use Rattle.claims.specs.Trials.{main_size, sends, connects, unlocks, packet_of, ran}
use Rattle.claims.proofs.Settings.Written.{each_of_image}
use Rattle.claims.proofs.Trials.Framing.{never_empty, length_there, framed}
use Rattle.claims.proofs.Settings.SettingsRule.{image_reads, blank_reads, no_name_fits}
use Rattle.claims.proofs.Sessions.WrittenRule.{blank_program_is_obeyed}
use Rattle.claims.proofs.Sessions.CallRules.{accepted_has_size, valid_is_served}
use Rattle.claims.proofs.Secrecy.LockedBoard.{image_then, alert_of, memory_then}
use Rattle.claims.proofs.Trials.SomePackets.{stood}
use Rattle.claims.proofs.Trials.SomeBoards.{Good, good_read, starts, unnamed_is_held, chosen_is_allowed}
use Rattle.claims.proofs.Trials.SomeSessions.{room, unlock_is_tried, none_protected}
use Rattle.claims_restarts.specs.Moves.{Move, now_after, seen_after}
use Rattle.claims_restarts.specs.Boards.{fresh, port_one}
use Rattle.claims_restarts.specs.Trials.{session, blanked, readable, readable_contents, programs, shown_count, reads, reads_window, opening, last_reply}
use Rattle.claims_restarts.proofs.Trials.SomeVisits.{handed, session_runs}
use Rattle.claims_restarts.proofs.Twins.{zeros_size, settings_size_lem}

-- ---- a board that was unlocked by 32 times 0xFF

-- how it stands then, and the board
abbrev unlocked_standing : Standing
unlocked_standing = after_right (stood 0 0)

abbrev unlocked_board : Images → Settings → Running
unlocked_board images settings =
    record { session = record { standing = unlocked_standing; main_size = main_size; settings = kept_of settings }; memory = images }

-- a protected command is performed
performed : (core : List ℕ) (task : Guarded) → acknowledgement mspm0.last_rate (packet_of core) ≡ acknowledged → command_of (packet_of core) ≡ command.Guarded task
    → (alert : ℕ) (right : Bool) → judged_of mspm0.last_rate unlocked_standing alert 2000 (packet_of core) right ≡ judged unlocked_standing (Perform task)
unfolding judged_of heard_after pass_time command_idles is_idle_too_long heard_in_command stirred pick
performed core task fine read alert right = rw (never_empty core, fine, read) refl

-- settings whose alert does nothing
module _ (images : Images) (settings : Settings) (good : Good images settings) (quiet : settings.shown.alert ≡ 0) (allowed : is_allowed settings.shown ≡ true)
    (public : settings.password ≡ replicate 32 0xFF)
  where
    not_struck : is_struck (alert_of images) 0 ≡ false
    unfolding is_struck pick
    not_struck = rw (ap (λ (told : SettingsTold). told.settings.shown.alert) (good_read images settings good) ∙ quiet) refl

    unlocked_now : next (called mspm0 (ran (started mspm0 images) (connects ∷ [])) (unlocks 0xFF) (unlocks 0xFF).one_area) ≡ unlocked_board images settings
    unfolding tried image_then pick
    unlocked_now =
        ap next (unlock_is_tried images settings good 0xFF (omega arith) true (ap (λ (password : List ℕ). are_same password (replicate 32 0xFF)) public ∙ equal_are_same (replicate 32 0xFF)))
        ∙ ap (λ (struck : Bool). record {
          session = record { standing = unlocked_standing; main_size = length images.main; settings = settings_of images };
          memory = memory_then mspm0 images struck;
        }) not_struck
        ∙ ap₂ (λ (size : ℕ) (told : SettingsTold). record {
          session = record { standing = unlocked_standing; main_size = size; settings = told.settings };
          memory = images;
        }) good.size (good_read images settings good)

    unlocked_is_valid : is_record mspm0 (unlocked_board images settings).session (length images.main) (length images.settings) ≡ true
    unfolding is_valid is_rate counts_fit is_main_size is_multiple pick
    unlocked_is_valid =
        clauses_make_record mspm0 (unlocked_board images settings).session _ _
        (record {
          standing = refl;
          values = allowed;
          main_size = refl;
          settings = settings_size_lem mspm0 images (starts images settings good);
          main = good.size;
        })

    -- it performs a protected command
    performs : (core : List ℕ) (task : Guarded) → acknowledgement mspm0.last_rate (packet_of core) ≡ acknowledged → command_of (packet_of core) ≡ command.Guarded task
        → called mspm0 (unlocked_board images settings) (sends core) (sends core).one_area
        ≡ followed mspm0 (unlocked_board images settings).session images (packet_of core) (sends core).one_area (judged unlocked_standing (Perform task))
    unfolding serve_of
    performs core task fine read =
        valid_is_served mspm0 (unlocked_board images settings).session images 2000 (packet_of core) (sends core).one_area unlocked_is_valid good.window (room 0)
        ∙ ap (followed mspm0 (unlocked_board images settings).session images (packet_of core) (sends core).one_area)
        (performed core task fine read settings.shown.alert _)

-- ---- settings with readout on

may_change_lem : (place : ℕ) → may_change mspm0.sector_size (0 ∷ []) place ≡ true
unfolding may_change pick
may_change_lem place = ap not (none_protected 1 (place / mspm0.sector_size))

blank_is_allowed : is_allowed blank_settings.shown ≡ true
unfolding is_allowed pick
blank_is_allowed = refl

readable_is_held : HeldContents readable_contents
readable_is_held = unnamed_is_held 0 0 0 readout_on 0xFFFFFFFF 0xFF 0 (omega arith) (omega arith) (omega arith) (omega arith) (omega arith) (omega arith)

readable_is_allowed : is_allowed readable.shown ≡ true
readable_is_allowed = chosen_is_allowed 0 0 0 readout_on 0xFFFFFFFF 0xFF 0 (omega arith) (omega arith) (omega arith) (omega arith) (omega arith) (omega arith)

abbrev image : List ℕ
image = image_of readable_contents

image_is_read : read_of image ≡ accepted readable_contents
image_is_read = image_reads readable_contents readable_is_held readable_is_allowed no_name_fits

image_size_lem : length image ≡ image_size
image_size_lem = accepted_has_size mspm0 image (ap (λ (told : ReadTold). told.number) image_is_read)

-- ---- they are written over blank ones

-- the packet
abbrev pub program_core : List ℕ
program_core = codes.program ∷ (bytes_of 4 mspm0.settings_start ++ image)

pub core_size : length program_core ≡ 1029
unfolding bytes_of
core_size = omega (arith, image_size_lem)

program_is_fine : acknowledgement mspm0.last_rate (packet_of program_core) ≡ acknowledged
unfolding bytes_of
program_is_fine =
    framed program_core (omega arith) (omega (arith, core_size))
    (each_cons codes.program (bytes_of 4 mspm0.settings_start ++ image) (omega arith)
    (each_append (bytes_of 4 mspm0.settings_start) image (each_bytes_of 4 mspm0.settings_start) (each_of_image readable_contents readable_is_held readable_is_allowed no_name_fits)))
    (λ e. omega arith)

program_is_read : command_of (packet_of program_core) ≡ command.Guarded (guarded.Program mspm0.settings_start image_size false)
unfolding command_of guarded_in guarded_of is_one_of length_fits pick number_of bytes_of
program_is_read = rw (length_there program_core (omega arith) (omega (arith, core_size)) ∙ core_size) refl

data_there : data_in image_size (packet_of program_core) ≡ image
unfolding bytes_of
data_there = part_there (packet_of program_core) 8 image_size image (bytes_of 4 (checksum_of program_core)) refl image_size_lem

-- the range is that of the settings flash, of which nothing is protected
none_kept : first_kept mspm0.sector_size (0 ∷ []) 0 image_size ≡ image_size
unfolding first_kept may_change pick
none_kept = none_found _ image_size _ 0 image_size (λ k l u. ap (λ (bit : Bool). not (not bit)) (none_protected 1 (k / mspm0.sector_size)))

settings_place : place_of mspm0 main_size blank_kept.protection blank_settings.shown.settings_protected mspm0.settings_start image_size
    ≡ record { region = region.Settings; offset = 0; first_protected = None }
unfolding place_of lies_within found_before pick
settings_place = rw none_kept refl

all_blank : all_are 0xFF (part 0 image_size (replicate image_size 0xFF)) ≡ true
all_blank =
    ap (all_are 0xFF) (take_all image_size (replicate image_size 0xFF) (omega (arith, length-replicate {A = ℕ} image_size 0xFF))) ∙ replicate_all_are 0xFF image_size

-- over 0xFF the bytes become the image's
image_programmed : program_of mspm0.sector_size (0 ∷ []) 0 image (replicate image_size 0xFF) ≡ image
image_programmed =
    program_on_blank mspm0.sector_size (0 ∷ []) 0 image (replicate image_size 0xFF) (omega (arith, image_size_lem, length-replicate {A = ℕ} image_size 0xFF))
    (each_of_image readable_contents readable_is_held readable_is_allowed no_name_fits) (λ place l u. may_change_lem place)
    (ap (λ (count : ℕ). all_are 0xFF (part 0 count (replicate image_size 0xFF))) image_size_lem ∙ all_blank)
    ∙ stored_whole (replicate image_size 0xFF) image (length-replicate {A = ℕ} image_size 0xFF ∙ sym image_size_lem)

module _ (main : List ℕ) (size : length main ≡ main_size) where
  blanked_is_good : Good (blanked main) blank_settings
  blanked_is_good = record { size = size; window = zeros_size mspm0; read = ap settings_only blank_reads }

  program_is_planned : program mspm0 main_size blank_kept.protection blank_settings.shown.settings_protected mspm0.settings_start image_size (blanked main)
      ≡ orders codes.success (ProgramSettings 0 image_size)
  unfolding is_aligned is_multiple pick
  program_is_planned =
      blank_program_is_obeyed mspm0 main_size blank_kept.protection blank_settings.shown.settings_protected mspm0.settings_start image_size (blanked main)
      (ap (λ (place : Place). is_outside place.region) settings_place) (ap (λ (place : Place). is_window place.region) settings_place) refl
      (ap has_protected settings_place)
      (ap (λ (place : Place). all_are 0xFF (bytes_at place image_size (blanked main))) settings_place ∙ all_blank)
      ∙ ap (λ (place : Place). orders codes.success (program_in place.offset image_size place.region)) settings_place

  -- a board with these settings
  abbrev written : Images
  written = memory main image (blanked main).window

  settings_written : (next (called mspm0 (unlocked_board (blanked main) blank_settings) programs programs.one_area)).memory ≡ written
  unfolding programs
  settings_written =
      ap (λ (left : Left). left.memory) (performs (blanked main) blank_settings blanked_is_good refl blank_is_allowed refl program_core _ program_is_fine program_is_read)
      ∙ ap (λ (planned : Planned). carried_out mspm0 blank_settings.shown blank_kept.protection (packet_of program_core) (blanked main) planned.order) program_is_planned
      ∙ ap (λ (settings : List ℕ). memory main settings (blanked main).window)
      (ap (λ (bytes : List ℕ). program_of mspm0.sector_size (0 ∷ []) 0 bytes (replicate image_size 0xFF)) data_there ∙ image_programmed)

-- ---- and memory is read

-- so many bytes from an address on
module _ (address : ℕ) where
  abbrev pub read_core : List ℕ
  read_core = codes.read_back ∷ (bytes_of 4 address ++ bytes_of 4 shown_count)

  read_is_fine : acknowledgement mspm0.last_rate (packet_of read_core) ≡ acknowledged
  unfolding bytes_of
  read_is_fine =
      framed read_core (omega arith) (omega arith)
      (each_cons codes.read_back (bytes_of 4 address ++ bytes_of 4 shown_count) (omega arith)
      (each_append (bytes_of 4 address) (bytes_of 4 shown_count) (each_bytes_of 4 address) (each_bytes_of 4 shown_count)))
      (λ e. omega arith)

-- both packets are read as what they are
reads_are_read : (command_of reads.packet ≡ command.Guarded (guarded.ReadBack 0 shown_count))
    × (command_of reads_window.packet ≡ command.Guarded (guarded.ReadBack mspm0.window_start shown_count))
unfolding command_of guarded_in guarded_of is_one_of length_fits pick number_of bytes_of
reads_are_read = (refl, refl)

-- a board with these settings, whatever MAIN and the window hold
module _ (main window : List ℕ) (size : length main ≡ main_size) (sized : length window ≡ mspm0.window_size) where
  abbrev readable_board : Images
  readable_board = memory main image window

  readable_is_good : Good readable_board readable
  readable_is_good = record { size = size; window = sized; read = ap settings_only image_is_read }

  -- the bytes of a region from its first address on are sent whole
  sent_whole : (packet : List ℕ) (place : Region) → is_silent packet ≡ false → length (bytes_in 0 shown_count readable_board place) ≤ read_back_most
      → let sent = answer_of Bytes place 0 shown_count packet readable_board (replicate reply_limit 0) in
      take sent.size sent.area ≡ reply_bytes Bytes (bytes_in 0 shown_count readable_board place)
  sent_whole packet place heard few =
      let beside = bytes_in 0 shown_count readable_board place in
      ap (λ (sent : Sent). take sent.size sent.area) (answer_is_whole Bytes place 0 shown_count packet readable_board (replicate reply_limit 0) few (room 0))
      ∙ take-append_seam (reply_bytes (hushed packet Bytes) beside) _
      ∙ ap (λ (reply : Reply). reply_bytes reply beside) (others_are_told packet Bytes heard)

  main_is_read : replied (called mspm0 (unlocked_board readable_board readable) reads reads.one_area) ≡ reply_bytes Bytes (part 0 shown_count main)
  unfolding read_back_at place_of lies_within bytes_of is_one_of pick
  main_is_read =
      ap replied (performs readable_board readable readable_is_good refl readable_is_allowed refl (read_core 0) _ (read_is_fine 0) reads_are_read.0)
      ∙ sent_whole reads.packet region.Main refl (omega (arith, length_part 0 shown_count main (omega (arith, size))))

  window_is_read : replied (called mspm0 (unlocked_board readable_board readable) reads_window reads_window.one_area) ≡ reply_bytes Bytes (part 0 shown_count window)
  unfolding read_back_at place_of lies_within bytes_of is_one_of pick
  window_is_read =
      let address = mspm0.window_start in
      ap replied (performs readable_board readable readable_is_good refl readable_is_allowed refl (read_core address) _ (read_is_fine address) reads_are_read.1)
      ∙ sent_whole reads_window.packet region.Window refl (omega (arith, length_part 0 shown_count window (omega (arith, sized))))

  -- from a start that is handed the window as it is, its bytes are read
  pub kept_window_is_read : replied (called mspm0 (ran (started mspm0 readable_board) (connects ∷ unlocks 0xFF ∷ [])) reads_window reads_window.one_area)
      ≡ reply_bytes Bytes (part 0 shown_count window)
  kept_window_is_read =
      ap (λ (board : Running). replied (called mspm0 board reads_window reads_window.one_area))
      (unlocked_now readable_board readable readable_is_good refl readable_is_allowed refl)
      ∙ window_is_read

-- ---- both sessions, from whatever was before

module _ (images : Images) (earlier : List Move) (main : List ℕ) (size : length main ≡ main_size)
    (blank : handed (now_after (port_one mspm0) images earlier) ≡ blanked main)
  where
    abbrev writing : List Move
    writing = session (connects ∷ unlocks 0xFF ∷ programs ∷ []) earlier

    written_is_good : Good (written main size) readable
    written_is_good = readable_is_good main (blanked main).window size (zeros_size mspm0)

    written_then : handed (now_after (port_one mspm0) images writing) ≡ written main size
    written_then =
        ap handed (session_runs images (connects ∷ unlocks 0xFF ∷ programs ∷ []) earlier (blanked main) blank (starts (blanked main) blank_settings (blanked_is_good main size)))
        ∙ ap (λ (board : Running). fresh mspm0 (next (called mspm0 board programs programs.one_area)).memory)
        (unlocked_now (blanked main) blank_settings (blanked_is_good main size) refl blank_is_allowed refl)
        ∙ ap (fresh mspm0) (settings_written main size)

    -- the latest reply has the bytes of MAIN
    pub blank_settings_tell_all : last_reply (seen_after (port_one mspm0) images (opening earlier)) ≡ reply_bytes Bytes (part 0 shown_count main)
    blank_settings_tell_all =
        rw
        (session_runs images (connects ∷ unlocks 0xFF ∷ []) writing (written main size) written_then (starts (written main size) readable written_is_good))
        (ap (λ (board : Running). replied (called mspm0 board reads reads.one_area))
        (unlocked_now (written main size) readable written_is_good refl readable_is_allowed refl)
        ∙ main_is_read main (blanked main).window size (zeros_size mspm0))
