-- Which messages are on the topic of an exchange, by what they say.
use Rattle.std.specs.Prelude.{◌==◌, Bool, true, false}
use Rattle.rk_message.specs.declared.message.Body.{Body}
use Rattle.rk_message.specs.declared.message.Body.TheVariants as bodies
use Rattle.rk_message.specs.declared.kind.Kind.{Kind}
use Rattle.rk_message.specs.declared.kind.Kind.TheVariants as kinds
use Rattle.rk_settle.specs.declared.topic.Topic.{Topic}
use Rattle.rk_settle.specs.declared.topic.Topic.TheVariants as topics

-- whether a message is on a topic
abbrev pub is_on : Topic → Body → Bool
is_on topics.Call (bodies.Lookup lookup) = true
is_on topics.Call (bodies.Located located) = true
is_on topics.Call (bodies.Request request) = true
is_on topics.Call (bodies.Reply reply) = true
is_on topics.Log (bodies.Append append) = true
is_on topics.Log (bodies.Stored stored) = true
is_on topics.Log (bodies.Reply reply) = true
is_on (topics.Readiness tablet) (bodies.Prepare prepare) = prepare.tenure.tablet == tablet
is_on (topics.Readiness tablet) (bodies.Ready ready) = ready.tenure.tablet == tablet
is_on (topics.Closing tablet) (bodies.Close tenure) = tenure.tablet == tablet
is_on (topics.Handing tablet) (bodies.Close tenure) = tenure.tablet == tablet
is_on (topics.Handing tablet) (bodies.Transfer transfer) = transfer.tenure.tablet == tablet
is_on (topics.Granting tablet) (bodies.Grant grant) = grant.tenure.tablet == tablet
is_on (topics.Pulls tablet) (bodies.Pull pull) = pull.tenure.tablet == tablet
is_on (topics.Pulls tablet) (bodies.Pulled pulled) = pulled.tenure.tablet == tablet
is_on (topics.Wants tablet) (bodies.Want want) = want.tenure.tablet == tablet
is_on (topics.Wants tablet) (bodies.Got got) = got.tenure.tablet == tablet
is_on (topics.End tablet) (bodies.Joined tenure) = tenure.tablet == tablet
is_on (topics.End tablet) (bodies.Own tenure) = tenure.tablet == tablet
is_on (topics.End tablet) (bodies.Release tenure) = tenure.tablet == tablet
is_on topic body = false

-- whether a message of this kind is of a call
abbrev pub is_of_call : Kind → Bool
is_of_call kinds.Lookup = true
is_of_call kinds.Located = true
is_of_call kinds.Request = true
is_of_call kinds.Reply = true
is_of_call kind = false

-- whether a message of this kind is of a log exchange
abbrev pub is_of_log : Kind → Bool
is_of_log kinds.Append = true
is_of_log kinds.Stored = true
is_of_log kinds.Reply = true
is_of_log kind = false
