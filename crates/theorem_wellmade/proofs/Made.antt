-- The devices that calls have made, shown: each call keeps a well-made device. Assumes nothing.
use mathlib.Core.List.{List, [], ◌∷◌}
use Rattle.device_2250.specs.declared.Device.{Device}
use Rattle.device_2250.specs.Device.{unit_of, fresh_of}
use Rattle.device_2250.proofs.Laws.{houses}
use Rattle.theorem_wellmade.specs.Made.{DeviceMade, Call, after_call, after_calls, AllSentBytes, CallKeeps, MadeWell}
use Rattle.theorem_wellmade.proofs.Calls.{fresh_well, load_well, switch_well, command_well, advance_well, key_well}

pub call_keeps : CallKeeps
call_keeps d m (Call.load size dump) sent = load_well 8192 houses (unit_of d) m size dump
call_keeps d m (Call.switch closed) sent = switch_well 8192 (unit_of d) m closed
call_keeps d m Call.halt sent = m
call_keeps d m (Call.command code bytes room) sent = command_well 8192 (unit_of d) m code bytes room sent
call_keeps d m (Call.advance sights) sent = advance_well 8192 (unit_of d) m sights
call_keeps d m (Call.list sight held out) sent = m
call_keeps d m (Call.key number) sent = key_well 8192 (unit_of d) m number

all_keep : (d : Device) → DeviceMade d → (calls : List Call) → AllSentBytes calls → DeviceMade (after_calls d calls)
all_keep d m [] sent = m
all_keep d m (c ∷ calls) sent = all_keep (after_call d c) (call_keeps d m c sent.0) calls sent.1

pub made_well : MadeWell
made_well s calls sent = all_keep (fresh_of s) (fresh_well 8192 houses s) calls sent
