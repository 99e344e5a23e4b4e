-- What an item asks for (document 01, "Attributes"), given what stands outside the channels' own records.
use Rattle.heads.specs.declared.Fault.{Fault}
use Rattle.effects.specs.declared.Effect.{Effect}
use Rattle.settings.specs.declared.Change.{Change}
use Rattle.definitions.specs.declared.Attribute.{Attribute}
use Rattle.std.specs.Prelude.{List, Bool, false, ℕ, eqb, ltb, ℤ, length, get_or, take, drop, Result, Ok, Err, Option, Some, None}
use Rattle.octets.specs.Pick.{pick}
use Rattle.octets.specs.Number.{number_of, signed_of}
use Rattle.items.specs.declared.Item.{Item}
use Rattle.heads.specs.declared.Fault.TheVariants.{UnfitLength, UnfitValue, ChannelNumber, Compressed}
use Rattle.settings.specs.Settings.{default_settings, channel_limit, applied}
use Rattle.definitions.specs.Define.{tagged, defined}
use Rattle.standing.specs.declared.Standing.{Standing}
use Rattle.standing.specs.Standing.{with_order, with_count, with_sequences, with_start, with_root}

-- 01, byte order of the values that follow: length 0 or 1; 0 big, 1 little; default big.
unfoldable pub order_effect : List ℕ → (Result Effect Fault)
order_effect v =
    pick (ltb 1 (length v)) (Err UnfitLength)
    (pick (eqb (length v) 0) (Ok (Effect.Order false))
    (pick (ltb 1 (get_or v 0 0)) (Err UnfitValue) (Ok (Effect.Order (eqb (get_or v 0 0) 1)))))

-- 05, channels: length 0 to 4; 1 to 256. After length 0 no count stands, kept as 0.
unfoldable pub count_effect : Bool → List ℕ → (Result Effect Fault)
count_effect little v =
    let n = number_of little (take 4 v) in
    pick (ltb 4 (length v)) (Err UnfitLength)
    (pick (eqb (length v) 0) (Ok (Effect.Count 0))
    (pick (eqb n 0) (Err UnfitValue)
    (pick (ltb channel_limit n) (Err UnfitValue) (Ok (Effect.Count n)))))

-- 06, sequences: length 0 to 4; 1 to 4,294,967,295; default by waveform length, kept as 0.
unfoldable pub sequences_effect : Bool → List ℕ → (Result Effect Fault)
sequences_effect little v =
    let n = number_of little (take 4 v) in
    pick (ltb 4 (length v)) (Err UnfitLength)
    (pick (eqb (length v) 0) (Ok (Effect.Sequences 0))
    (pick (eqb n 0) (Err UnfitValue) (Ok (Effect.Sequences n))))

-- 07, start pointer: length 0 to 4; signed; length 0 goes back to the continued pointer.
unfoldable pub start_effect : Bool → ℤ → List ℕ → (Result Effect Fault)
start_effect little continued v =
    pick (ltb 4 (length v)) (Err UnfitLength)
    (pick (eqb (length v) 0) (Ok (Effect.Start continued))
    (Ok (Effect.Start (signed_of little (take 4 v)))))

-- 0E of length above 0: refusal 9.
unfoldable pub compressed_effect : List ℕ → (Result Effect Fault)
compressed_effect v = pick (eqb (length v) 0) (Ok Effect.Pass) (Err Compressed)

-- A definition outside a group sets the attribute for all channels.
unfoldable pub all_effect : Result Change Fault → (Result Effect Fault)
all_effect (Ok c) = Ok (Effect.All c)
all_effect (Err fault) = Err fault

-- Inside a group it sets that one channel.
unfoldable pub one_effect : ℕ → Result Change Fault → (Result Effect Fault)
one_effect channel (Ok c) = Ok (Effect.One channel c)
one_effect channel (Err fault) = Err fault

-- The tags that stand only outside groups; every other one is stepped over.
unfoldable pub root_effect : Standing → ℕ → ℕ → List ℕ → (Result Effect Fault)
root_effect st tag start v =
    pick (eqb tag 0x01) (order_effect v)
    (pick (eqb tag 0x05) (count_effect st.little v)
    (pick (eqb tag 0x06) (sequences_effect st.little v)
    (pick (eqb tag 0x07) (start_effect st.little st.continued v)
    (pick (eqb tag 0x0E) (compressed_effect v)
    (pick (eqb tag 0x1E) (Ok (Effect.Frame start (length v)))
    (Ok Effect.Pass))))))

-- An item outside a group; length 0 goes back to the default.
unfoldable pub plain_effect : Standing → ℕ → ℕ → List ℕ → Option Attribute → (Result Effect Fault)
plain_effect st tag start v (Some a) = all_effect (defined a st.little default_settings v)
plain_effect st tag start v None = root_effect st tag start v

-- An item inside a group; length 0 goes back to the root setting.
unfoldable pub member_effect : Standing → ℕ → List ℕ → Option Attribute → (Result Effect Fault)
member_effect st channel v (Some a) = one_effect channel (defined a st.little st.root v)
member_effect st channel v None = (Ok Effect.Pass)

-- A group's channel number is below the channel count, else refusal 8. A group met while no channel count stands is ignored.
unfoldable pub group_effect : Standing → ℕ → (Result Effect Fault)
group_effect st channel = pick (eqb st.counted 0) (Ok Effect.Pass) (pick (ltb channel st.counted) (Ok Effect.Pass) (Err ChannelNumber))

-- The octets of a value.
abbrev pub value_at : List ℕ → ℕ → ℕ → List ℕ
value_at s start len = take len (drop start s)

-- What an item asks for.
unfoldable pub effect_of : List ℕ → Standing → Item → (Result Effect Fault)
effect_of s st (Item.Plain place tag start len) = plain_effect st tag start (value_at s start len) (tagged tag)
effect_of s st (Item.Group place channel) = group_effect st channel
effect_of s st (Item.Member place channel tag start len) =
    pick (eqb st.counted 0) (Ok Effect.Pass) (member_effect st channel (value_at s start len) (tagged tag))
effect_of s st (Item.Mark place) = (Ok Effect.Pass)

-- What stands after an effect. A definition outside a group changes the root settings; what a frame leaves is for `framed_as` to say.
abbrev pub standing_after : Standing → Result Effect Fault → Standing
standing_after st (Ok Effect.Pass) = st
standing_after st (Ok (Effect.Order little)) = with_order little st
standing_after st (Ok (Effect.Count counted)) = with_count counted st
standing_after st (Ok (Effect.Sequences sequences)) = with_sequences sequences st
standing_after st (Ok (Effect.Start start)) = with_start start st
standing_after st (Ok (Effect.All c)) = with_root (applied c st.root) st
standing_after st (Ok (Effect.One channel c)) = st
standing_after st (Ok (Effect.Frame start len)) = st
standing_after st (Err fault) = st
