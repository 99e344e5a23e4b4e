-- What stands outside the channels' own records, its limits, and one thing of it set (document 01, "Attributes").
use Rattle.std.specs.Prelude.{Bool, false, ℕ, ℤ, pos}
use Rattle.settings.specs.declared.Settings.{Settings}
use Rattle.settings.specs.Settings.{default_settings}
use Rattle.standing.specs.declared.Standing.{Standing}

-- The octets of a file at most.
abbrev pub octets_limit : ℕ
octets_limit = 2_147_483_647

-- The frames of a file at most.
abbrev pub frames_limit : ℕ
frames_limit = 4096

-- Before the first item: big-endian, no channel count, sequences by waveform length, pointer 0, the defaults.
abbrev pub first_standing : Standing
first_standing =
    record { little = false; counted = 0; sequences = 0; start = pos 0; continued = pos 0; root = default_settings }

-- One thing set, all else as it stands: the byte order, the channel count, the sequences, the start pointer, the root settings.
abbrev pub with_order : Bool → Standing → Standing
with_order little st =
    record { little = little; counted = st.counted; sequences = st.sequences; start = st.start; continued = st.continued; root = st.root }

abbrev pub with_count : ℕ → Standing → Standing
with_count counted st =
    record { little = st.little; counted = counted; sequences = st.sequences; start = st.start; continued = st.continued; root = st.root }

abbrev pub with_sequences : ℕ → Standing → Standing
with_sequences sequences st =
    record { little = st.little; counted = st.counted; sequences = sequences; start = st.start; continued = st.continued; root = st.root }

abbrev pub with_start : ℤ → Standing → Standing
with_start start st =
    record { little = st.little; counted = st.counted; sequences = st.sequences; start = start; continued = st.continued; root = st.root }

abbrev pub with_root : Settings → Standing → Standing
with_root root st =
    record { little = st.little; counted = st.counted; sequences = st.sequences; start = st.start; continued = st.continued; root = root }

-- A frame has led to this pointer, and the next frame goes on there.
abbrev pub with_continued : ℤ → Standing → Standing
with_continued z st =
    record { little = st.little; counted = st.counted; sequences = st.sequences; start = z; continued = z; root = st.root }
