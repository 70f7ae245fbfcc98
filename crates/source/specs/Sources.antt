-- What each source means and shows: over a lower source, from what that one means and shows.
use Rattle.std.specs.Prelude.{ℕ, ◌-◌, min, max, List, ◌++◌, map, length}
use Rattle.source.specs.Cuts.{pieces, ending, before, sizes}
use Rattle.source.specs.Stream.{Stream, byte, plain, limited}
use Rattle.source.specs.declared.cut.Cut.{Cut}
use Rattle.source.specs.declared.fault.Fault.TheVariants.{Quota as quota_fault}
use Rattle.source.specs.declared.narrow.Narrow.{Narrow}
use Rattle.source.specs.declared.quota.Quota.{Quota}
use Rattle.source.specs.declared.whole.Whole.{Whole}

abbrev pub whole_stream : Whole → Stream
whole_stream w = plain w.rest.now

abbrev pub whole_ready : Whole → ℕ
whole_ready w = length w.rest.now

abbrev pub cut_stream : Cut → Stream
cut_stream c = record { items = map byte c.shown.now ++ pieces c.entries.now c.rest.now; tail = ending c.code }

abbrev pub cut_ready : Cut → ℕ
cut_ready c = length c.shown.now

-- how many bytes each frame holds, from what is left of the one that is shown
abbrev pub frames : Cut → List ℕ
frames c = before (length c.shown.now) (sizes c.entries.now (length c.rest.now))

abbrev pub narrow_stream : {S : Type 0} → (S → Stream) → Narrow S → Stream
narrow_stream m n = m n.source

-- the most bytes that it shows
abbrev pub width : {S : Type 0} → Narrow S → ℕ
width n = max n.most 1

-- how many it may show before the next look
abbrev pub room : {S : Type 0} → Narrow S → ℕ
room n = width n - n.taken

abbrev pub narrow_ready : {S : Type 0} → (S → ℕ) → Narrow S → ℕ
narrow_ready k n = min (room n) (k n.source)

abbrev pub quota_stream : {S : Type 0} → (S → Stream) → Quota S → Stream
quota_stream m q = limited (quota_fault q.quota) q.left (m q.source)

abbrev pub quota_ready : {S : Type 0} → (S → ℕ) → Quota S → ℕ
quota_ready k q = min q.left (k q.source)
