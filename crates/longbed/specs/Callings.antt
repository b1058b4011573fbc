-- The calls of a script, by what its lines say.
use Rattle.std.specs.Prelude.{ℕ, List, [], ◌∷◌, replicate, pos}
use Rattle.law.specs.Calls as law
use Rattle.script.specs.Lines.{LineMeans, Blank, Bed, At, Tripped, Setup, Block, Event, Tick, Reading}
use Rattle.script.specs.Readings.{line_means}
use Rattle.longbed.specs.declared.read.Entry.{Entry}

-- `tick n` is n calls, a reading is one, with a buffer of so many sevens, and what is no call of the axis is none
abbrev pub calls_in : LineMeans → List law.Call
calls_in Blank = []
calls_in (Bed bed) = []
calls_in (At p) = []
calls_in Tripped = []
calls_in (Setup v) = law.SetUp v ∷ []
calls_in (Block ws) = law.Block ws ∷ []
calls_in (Event e) = law.Event e ∷ []
calls_in (Tick n) = replicate n law.Tick
calls_in (Reading n) = law.Reading (replicate n (pos 7)) ∷ []

-- the words of the buffer that a line asks for
abbrev pub buffer_of : LineMeans → ℕ
buffer_of Blank = 0
buffer_of (Bed bed) = 0
buffer_of (At p) = 0
buffer_of Tripped = 0
buffer_of (Setup v) = 0
buffer_of (Block ws) = 0
buffer_of (Event e) = 0
buffer_of (Tick n) = 0
buffer_of (Reading n) = n

abbrev pub entry_calls : Entry → List law.Call
entry_calls e = calls_in (line_means e.line)
