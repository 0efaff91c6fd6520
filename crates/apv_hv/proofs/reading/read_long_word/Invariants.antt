use Rattle.apv_bits.specs.Reader.{Unread}
use Rattle.apv_hv.specs.declared.reading.Read.{Read}
use Rattle.apv_hv.specs.Reading.{ReadsCode, LongWords}
use Rattle.apv_hv.proofs.reading.read_long_word.Given as goal

-- what is read after the zeros so far is read from the start
abbrev pub invariant-loop-zeros : goal.invariant-loop-zeros
invariant-loop-zeros l = (r : Read) (new : Unread) → ReadsCode (LongWords l.k l.zeros) l.limit l.reader r new → ReadsCode (LongWords l.k 0) l.limit l.initial.reader r new
