pub mod HealOne
pub mod HealOneLaws
pub mod Heal
pub mod HealLaws
pub mod HealCall
pub mod HealCallLaws
pub mod Restart
pub mod RestartLaws
