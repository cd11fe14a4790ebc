-- The kinds of asynchronous events (Base 2.0, sections 5.2.1 and 5.27.1.8).
use Rattle.std.specs.Prelude.{ℕ, ◌/◌, ◌%◌, ◌^◌, Bool, true, false, ◌==◌}
use Rattle.event_queue.specs.declared.kind.EventKind.{EventKind}
use Rattle.event_queue.specs.declared.kind.EventKind.TheVariants.{Namespace, Ana, Discovery}

-- whether two kinds are one
abbrev pub is_same_kind : EventKind → EventKind → Bool
is_same_kind Namespace Namespace = true
is_same_kind Namespace Ana = false
is_same_kind Namespace Discovery = false
is_same_kind Ana Namespace = false
is_same_kind Ana Ana = true
is_same_kind Ana Discovery = false
is_same_kind Discovery Namespace = false
is_same_kind Discovery Ana = false
is_same_kind Discovery Discovery = true

-- the result of the completion that tells a kind: a notice, what it is about, and the log page to read
abbrev pub result_of : EventKind → ℕ
result_of Namespace = 0x00040002
result_of Ana = 0x000C0302
result_of Discovery = 0x0070F002

-- the bit of Asynchronous Event Configuration that enables a kind
abbrev pub bit_of : EventKind → ℕ
bit_of Namespace = 8
bit_of Ana = 11
bit_of Discovery = 31

-- whether a value of Asynchronous Event Configuration enables a kind
abbrev pub is_in_mask : ℕ → EventKind → Bool
is_in_mask mask kind = mask / 2 ^ bit_of kind % 2 == 1
