-- All records that there are, by the words of the root settings.
use mathlib.Core.Path.{ap, ◌∙◌}
use Rattle.dated.specs.declared.Dated.{Dated}
use Rattle.records.proofs.Channels.{channels-few}
use Rattle.records.proofs.Renewing.{words-settings}
use Rattle.records.proofs.Refreshing.{refreshed-few}
use Rattle.records.proofs.refresh.Goals as goal

pub renew_all-requires : goal.renew_all-requires
renew_all-requires c =
    record {
      n_le_channel_limit = channels-few _ _ c.at_most-n.ensures;
      time_word_value = ap (λ (x : Dated). x.at) (c.words_of-w.ensures ∙ c.note.ensures);
      since_value = c.since_of-since.ensures;
    }

pub returns : goal.returns
returns c =
    let e = words-settings c.words_of-w.result _ (c.words_of-w.ensures ∙ c.note.ensures) in
    rw e at (refreshed-few _ c.at_most-n.ensures c.renew_all.ensures)
