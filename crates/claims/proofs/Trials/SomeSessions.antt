-- Sessions of the boards on which demand 3 is tried, call by call.
use mathlib.Core.Path.{◌≡◌, refl, sym, ap, ap₂, subst, ◌∙◌}
use mathlib.Core.Bool.{Bool, true, false}
use mathlib.Core.List.{List, [], ◌∷◌, ◌++◌}
use Prim.Native.Nat.{ℕ, zero, suc, ◌/◌, ◌≤◌, ◌<◌}
use native.Mathlib.Nat.{zero-div}
use native.Mathlib.Omega.{arith}
use lib.ListN.{length, get_or, take, drop, replicate, length-replicate}
use lib.Seq.{take_all, take-append_seam}
use Rattle.octets.specs.Choice.{pick}
use Rattle.octets.specs.Number.{bytes_of}
use Rattle.octets.proofs.Parts.{parts_join}
use Rattle.parts.specs.Parts.{mspm0}
use Rattle.line.specs.Codes.{reply_limit, unlock, is_one_of}
use Rattle.line.specs.Packet.{core_in}
use Rattle.line.proofs.PacketLaws.{unlock_is_password}
use Rattle.line.specs.declared.Reply.{Reply}
use Rattle.line.specs.declared.Reply.TheVariants.{Message}
use Rattle.line.specs.Replies.{reply_bytes, Sent}
use Rattle.line.proofs.ReplyLaws.{message_bytes}
use Rattle.session_state.specs.declared.Standing.{Standing}
use Rattle.session_state.specs.Phases.{most_sleep, at_start}
use Rattle.settings.specs.Held.{Settings}
use Rattle.settings.specs.Kept.{filled_up}
use Rattle.settings.specs.Answers.{SettingsTold}
use Rattle.flash.specs.Memory.{Memory, memory}
use Rattle.flash.specs.declared.Region.TheVariants.{Outside}
use Rattle.flash.specs.Protection.{is_protected, may_change}
use Rattle.flash.specs.Erasing.{erase_all_of}
use Rattle.flash.proofs.ErasingLaws.{erase_all_keeps_length, erase_all_of_open, erase_all_of_protected, erase_all_in_one_sector}
use Rattle.session_judge.specs.Judgement.{says}
use Rattle.session_judge.specs.Unlocking.{alert_reset, tried}
use Rattle.session_judge.specs.Hearing.{judged_of}
use Rattle.session_act.specs.Board.{settings_protection}
use Rattle.session_send.specs.Answering.{hushed}
use Rattle.session_send.proofs.AnsweringLaws.{others_are_told, answer_is_whole}
use Rattle.session.specs.declared.Session.{Session}
use Rattle.octets.specs.Alike.{are_same}
use Rattle.session.specs.Calling.{followed, serve_of}
use Rattle.session.proofs.RecordLaws.{record_by_clauses}
use Rattle.claims.specs.TwoBoards.{Images, Running, settings_of, started, Carries, Sending, called, next, replied, is_struck}
use Rattle.claims.specs.Trials.{sector_size, main_size, strict_board, guarded_board, second_ff, all_ff, connects, unlocks, two_guesses, three_guesses, ran}
use Rattle.claims.proofs.Sessions.CallRules.{valid_is_served, started_is_valid}
use Rattle.claims.proofs.Secrecy.LockedBoard.{image_then, alert_of, memory_then, session_then, later, Locked, started_is_later, started_is_locked}
use Rattle.claims.proofs.Secrecy.LockedCall.{verdict, call_is, stays_locked}
use Rattle.claims.proofs.Trials.SomePackets.{connect_core, unlock_core, unlock_is_fine, unlock_is_read, stood, connect_connects, tried_awake, first_is_counted, second_is_counted, third_is_counted}
use Rattle.claims.proofs.Trials.SomeBoards.{good_read, Good, starts, reset_is_good}

-- a running board stands locked
pub record Stands (images : Images) (board : Running) (standing : Standing) : Type 0 where
  pub so : board ≡ later mspm0 images standing
  pub locked : Locked mspm0 images standing

-- the areas have the least room
pub room : (byte : ℕ) → reply_limit ≤ length (replicate reply_limit byte)
room byte = omega (arith, length-replicate reply_limit byte)

module _ (images : Images) (settings : Settings) (good : Good images settings) where
  -- ---- packets without its password

  pub not_carried : (packet core : List ℕ) → core_in packet ≡ core → (core ≡ unlock ∷ settings.password → ⊥) → Carries mspm0 packet (settings_of images).password → ⊥
  not_carried packet core there other carries =
      other (sym there ∙ carries.core ∙ ap (λ (told : SettingsTold). unlock ∷ told.settings.password) (good_read images settings good))

  pub connect_is_strange : Carries mspm0 connects.packet (settings_of images).password → ⊥
  connect_is_strange = not_carried connects.packet _ connect_core (λ e. omega (arith, ap (λ (bytes : List ℕ). get_or bytes 0 0) e))

  -- another byte than the password's first
  pub unlock_is_strange : (byte : ℕ) → (byte ≡ get_or settings.password 0 0 → ⊥) → Carries mspm0 (unlocks byte).packet (settings_of images).password → ⊥
  unlock_is_strange byte other =
      not_carried (unlocks byte).packet _ (unlock_core byte) (λ e. other (ap (λ (bytes : List ℕ). get_or bytes 1 0) e))

  -- ---- one call after another

  stands_at_start : Stands images (started mspm0 images) at_start
  stands_at_start =
      record { so = started_is_later mspm0 images (starts images settings good); locked = started_is_locked mspm0 images (starts images settings good) }

  module _ (board : Running) (standing : Standing) (stands : Stands images board standing) where
    -- a call without its password
    stands_next : (sending : Sending) → (Carries mspm0 sending.packet (settings_of images).password → ⊥) → reply_limit ≤ length sending.one_area
        → (after : Standing) → (verdict mspm0 images standing sending).standing ≡ after
        → Stands images (next (called mspm0 board sending sending.one_area)) after
    stands_next sending stranger room after e = record {
      so =
          ap (λ (board : Running). next (called mspm0 board sending sending.one_area)) stands.so
          ∙ ap next (call_is mspm0 images standing stands.locked sending sending.one_area stranger room)
          ∙ ap (later mspm0 images) e;
      locked = subst (Locked mspm0 images) e (stays_locked mspm0 images standing stands.locked sending sending.one_area stranger room);
    }

    -- an Unlock with another one
    pub guess : (byte : ℕ) → (byte ≡ get_or settings.password 0 0 → ⊥) → (after : Standing)
        → (verdict mspm0 images standing (unlocks byte)).standing ≡ after
        → Stands images (next (called mspm0 board (unlocks byte) (unlocks byte).one_area)) after
    guess byte other after e = stands_next (unlocks byte) (unlock_is_strange byte other) (room 0) after e

  pub connected : Stands images (ran (started mspm0 images) (connects ∷ [])) (stood 0 0)
  connected = stands_next _ _ stands_at_start connects connect_is_strange (room 0) _ (connect_connects (alert_of images) false)

  -- ---- an Unlock

  module _ (byte : ℕ) (small : byte < 256) where
    -- of a session that stands locked and is awake when it comes: it is tried, by whether it has the password
    pub unlock_is_tried_at : (board : Running) (standing : Standing) → Stands images board standing → (wrong : ℕ)
        → ((alert : ℕ) (right : Bool) → judged_of mspm0.last_rate standing alert 2000 (unlocks byte).packet right ≡ tried (stood 0 wrong) alert right)
        → (right : Bool) → are_same settings.password (replicate 32 byte) ≡ right
        → called mspm0 board (unlocks byte) (unlocks byte).one_area
        ≡ followed mspm0 (session_then images standing) (later mspm0 images standing).memory (unlocks byte).packet (unlocks byte).one_area
        (tried (stood 0 wrong) (alert_of images) right)
    unfolding serve_of
    unlock_is_tried_at board standing stands wrong awake right compared =
        let core = sym (unlock_is_password mspm0.last_rate (unlocks byte).packet (unlock_is_fine byte small) (unlock_is_read byte)) ∙ unlock_core byte in
        let bit = ap₂ are_same (ap (λ (told : SettingsTold). told.settings.password) (good_read images settings good)) (ap (drop 1) core) ∙ compared in
        ap (λ (board : Running). called mspm0 board (unlocks byte) (unlocks byte).one_area) stands.so
        ∙ valid_is_served mspm0 (session_then images standing) _ 2000 (unlocks byte).packet (unlocks byte).one_area stands.locked.valid stands.locked.window (room 0)
        ∙ ap (followed mspm0 (session_then images standing) _ (unlocks byte).packet (unlocks byte).one_area)
        (ap (judged_of mspm0.last_rate standing (alert_of images) 2000 (unlocks byte).packet) bit ∙ awake (alert_of images) right)

    -- once connected
    pub unlock_is_tried : (right : Bool) → are_same settings.password (replicate 32 byte) ≡ right
        → called mspm0 (ran (started mspm0 images) (connects ∷ [])) (unlocks byte) (unlocks byte).one_area
        ≡ followed mspm0 (session_then images (stood 0 0)) (later mspm0 images (stood 0 0)).memory (unlocks byte).packet (unlocks byte).one_area
        (tried (stood 0 0) (alert_of images) right)
    unlock_is_tried = unlock_is_tried_at _ (stood 0 0) connected 0 (tried_awake byte small 0)

-- the message that an Unlock gets is the sixth byte of its reply
module _ (session : Session) (before : Memory) (byte code : ℕ) (standing : Standing) where
  abbrev reply : List ℕ
  reply = replied (followed mspm0 session before (unlocks byte).packet (unlocks byte).one_area (says standing (Message code)))

  reply_is_message : reply ≡ reply_bytes (Message code) []
  unfolding bytes_of is_one_of pick
  reply_is_message =
      ap (λ (sent : Sent). take sent.size sent.area)
      (answer_is_whole (Message code) Outside 0 0 (unlocks byte).packet before (unlocks byte).one_area (omega arith) (room 0))
      ∙ take-append_seam (reply_bytes (hushed (unlocks byte).packet (Message code)) []) _
      ∙ ap (λ (reply : Reply). reply_bytes reply []) (others_are_told (unlocks byte).packet (Message code) refl)

  pub message_is_sixth : get_or reply 5 0 ≡ code
  message_is_sixth = ap (λ (bytes : List ℕ). get_or bytes 5 0) (reply_is_message ∙ message_bytes code [])

-- ---- three wrong passwords, where the alert is reset

-- where nothing is protected, all is erased
no_bit : (count value k : ℕ) → get_or (replicate count value) k value ≡ value
no_bit zero value k = refl
no_bit (suc count) value zero = refl
no_bit (suc count) value (suc k) = no_bit count value k

pub none_protected : (count sector : ℕ) → is_protected (replicate count 0) sector ≡ false
unfolding is_protected
none_protected count sector = rw (no_bit count 0 (sector / 8), zero-div)

pub all_erased : (count : ℕ) (image : List ℕ) → image_then sector_size true (replicate count 0) image ≡ replicate (length image) 0xFF
unfolding image_then pick
all_erased count image = erase_all_of_open sector_size (replicate count 0) image (omega arith) (λ place there. none_protected count (place / sector_size))

-- where the first of two sectors is protected, the second is erased
pub second_erased : (main : List ℕ) → length main ≡ main_size
    → image_then sector_size true (1 ∷ replicate 31 0) main ≡ take sector_size main ++ replicate sector_size 0xFF
unfolding image_then may_change is_protected pick
second_erased main size =
    let erased : List ℕ = erase_all_of sector_size (1 ∷ replicate 31 0) main in
    let long : length erased ≡ main_size = erase_all_keeps_length sector_size (1 ∷ replicate 31 0) 0 0 main ∙ size in
    sym (take_all main_size erased (omega (arith, long)))
    ∙ sym (parts_join 0 sector_size sector_size erased)
    ∙ ap₂ (λ (front back : List ℕ). front ++ back)
    (erase_all_in_one_sector sector_size (1 ∷ replicate 31 0) main 0 sector_size (omega arith) (omega (arith, size)))
    (erase_all_in_one_sector sector_size (1 ∷ replicate 31 0) main sector_size sector_size (omega arith) (omega (arith, size)))

-- and where the one sector is protected, all is kept
pub all_kept : (image : List ℕ) → length image ≡ sector_size → image_then sector_size true (1 ∷ []) image ≡ image
unfolding image_then is_protected pick
all_kept image size =
    erase_all_of_protected sector_size (1 ∷ []) image
    (λ place there. let first : place / sector_size ≡ 0 = omega (arith, size) in ap (is_protected (1 ∷ [])) first)

module _ (images : Images) (settings : Settings) (good : Good images settings)
    (reset : settings.shown.alert ≡ alert_reset) (other : 0x33 ≡ get_or settings.password 0 0 → ⊥)
  where
    pub resets : alert_of images ≡ alert_reset
    resets = ap (λ (told : SettingsTold). told.settings.shown.alert) (good_read images settings good) ∙ reset

    pub guessed_twice : Stands images (ran (started mspm0 images) two_guesses) (stood most_sleep 2)
    guessed_twice =
        let first = guess images _ good _ _ (connected images _ good) 0x33 other _ (first_is_counted 0x33 (omega arith) (alert_of images)) in
        guess images _ good _ _ first 0x33 other _ (second_is_counted 0x33 (omega arith) (alert_of images))

    pub guessed : Stands images (ran (started mspm0 images) three_guesses) (stood most_sleep 3)
    guessed = guess images _ good _ _ guessed_twice 0x33 other _ (rw resets (third_is_counted 0x33 (omega arith)))

    pub struck_at_three : (is_struck (alert_of images) 2 ≡ false) × (is_struck (alert_of images) 3 ≡ true)
    unfolding is_struck pick
    struck_at_three = (rw resets, rw resets)

    -- two change nothing
    pub two_guesses_keep : (ran (started mspm0 images) two_guesses).memory ≡ images
    unfolding image_then pick
    two_guesses_keep = ap (λ (board : Running). board.memory) guessed_twice.so ∙ ap (memory_then mspm0 images) struck_at_three.0

    -- the third one strikes; what the strike leaves follows from the bits
    pub strike_leaves : (ran (started mspm0 images) three_guesses).memory
        ≡ memory (image_then sector_size true (filled_up settings.protection) images.main) (image_then sector_size true (settings_protection settings.shown) images.settings) images.window
    strike_leaves =
        ap (λ (board : Running). board.memory) guessed.so
        ∙ ap (memory_then mspm0 images) struck_at_three.1
        ∙ ap (λ (told : SettingsTold). memory (image_then sector_size true told.settings.protection images.main)
        (image_then sector_size true (settings_protection told.settings.shown) images.settings) images.window) (good_read images settings good)

module _ (byte main : ℕ) (small : byte < 256) (other : 0x33 ≡ byte → ⊥) where
  -- where nothing is protected, all is erased
  pub three_guesses_erase : (ran (started mspm0 (strict_board byte main)) three_guesses).memory ≡ all_ff (strict_board byte main)
  three_guesses_erase =
      strike_leaves (strict_board byte main) _ (reset_is_good 0 byte main (omega arith) small) refl other
      ∙ ap₂ (λ (flash image : List ℕ). memory flash image (strict_board byte main).window) (all_erased 32 _) (all_erased 1 _)

  -- where the first sector and the settings are protected, the second sector is erased
  pub three_guesses_keep : (ran (started mspm0 (guarded_board byte main)) three_guesses).memory ≡ second_ff (guarded_board byte main)
  three_guesses_keep =
      strike_leaves (guarded_board byte main) _ (reset_is_good 1 byte main (omega arith) small) refl other
      ∙ ap₂ (λ (flash image : List ℕ). memory flash image (guarded_board byte main).window) (second_erased (guarded_board byte main).main (reset_is_good 1 byte main (omega arith) small).size) (all_kept _ settings_size_lem)
    where
      settings_size_lem : length (guarded_board byte main).settings ≡ sector_size
      settings_size_lem = (record_by_clauses mspm0 _ _ _ (started_is_valid mspm0 false _ _ _ (starts _ _ (reset_is_good 1 byte main (omega arith) small)))).settings
