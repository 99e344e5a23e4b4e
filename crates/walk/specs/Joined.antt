-- The frames that successive advances stop at, joined.
use Rattle.heads.specs.declared.Refusal.{Refusal}
use Rattle.std.specs.Prelude.{ℕ, zero, suc, ◌-◌, List, [], ◌∷◌, ◌++◌, length, take, Result, Ok, Err, Option, Some, None}
use Rattle.dated.specs.Dated.{held}
use Rattle.layout.specs.Frame.{Frame}
use Rattle.effects.specs.Effects.{value_at}
use Rattle.verdict.specs.Verdict.{Verdict, accepted, refused}
use Rattle.walk.specs.declared.Waveform.{Waveform}
use Rattle.walk.specs.Advance.{Stand, advance_of}

-- The frame that a walk has stopped behind: the records of its channels are up to date.
abbrev pub frame_by : List ℕ → Waveform → Stand → Frame
frame_by s v x =
    record {
      start = v.start;
      place = v.place;
      little = v.little;
      sequences = v.sequences;
      channels = take v.channels (held x.records);
      waveform = value_at s v.place v.len;
    }

-- Frame after frame, up to the end or the refusal.
unfoldable pub joined_by : (List Frame → Stand → Verdict) → List ℕ → List Frame → Result (Option Waveform) Refusal → Stand → Verdict
joined_by more s met (Ok (Some v)) y = more (met ++ (frame_by s v y ∷ [])) y
joined_by more s met (Ok None) y = accepted met
joined_by more s met (Err r) y = refused r

unfoldable pub joined_in : ℕ → List ℕ → List Frame → Stand → Verdict
joined_in zero s met x = accepted met
joined_in (suc turns) s met x = joined_by (joined_in turns s) s met (advance_of s x).step (advance_of s x).at

unfoldable pub joined : List ℕ → List Frame → Stand → Verdict
joined s met x = joined_in (suc (length s - x.cursor.at)) s met x
